-- The words of small books and of known keys.
use Rattle.std.proofs.Common.{◌≡◌, ℕ, ◌⊎◌, ◌↔◌, List, [], ◌∷◌, ◌++◌, sym, refl, subst, inl, inr, ⊎_elim, arith, lit<}
use Rattle.std.specs.List.{AllByRecursion as All}
use Rattle.std.proofs.lemmas.List.{same_from_push}
use Rattle.model.specs.Symbols.{Symbols, InSet}
use Rattle.model.specs.Books.{BookWord, Entry, Entry.first, Entry.later}
use Rattle.model.specs.Keys.{KeyWord}
use Rattle.model.proofs.Entries.{opens_fits, none as no_entry, first_or_later}
use Rattle.question.specs.Runs.{Word}
use Rattle.question.specs.Notation.{hex, book}

-- An empty book has no words.
pub no_words : (w : Word) → book [] w → ⊥
no_words w (e, s) = no_entry (λ v rest o. let split = o.split in let z : ◌≡◌ {A = ℕ} 0 1 = cc in omega arith) e

pub one_f : book ("1F" ∷ []) (hex "1F")
one_f = (first (record { split = refl }), (lit< tt, (lit< tt, tt)))

-- A word that ends in the symbol e is one of known keys only if it ends in their end symbol, and the symbols before it are known.
key_parts : (set end : ℕ) (keys : Word) (e : ℕ) → KeyWord set end (keys ++ (e ∷ [])) → (e ≡ end) × All (InSet set) keys
key_parts set end keys e (low, (known, h, split)) =
    let same = same_from_push keys known e end split in
    (same.1, subst (All (InSet set)) (sym same.0) h)

pub keys_no_end : KeyWord 6 15 (hex "12") → ⊥
keys_no_end h = omega (arith, (key_parts 6 15 (hex "1") 2 h).0)

pub keys_unknown : KeyWord 6 15 (hex "3F") → ⊥
keys_unknown h = omega (arith, (key_parts 6 15 (hex "3") 15 h).1.0.1)

pub keys_end_within : KeyWord 6 15 (hex "FF") → ⊥
keys_end_within h = omega (arith, (key_parts 6 15 (hex "F") 15 h).1.0.1)

-- 1F, the empty word, an entry that is no word, and one that is cut by the end.
abbrev bytes : List ℕ
bytes = 2 ∷ 1 ∷ 15 ∷ 0 ∷ 1 ∷ 16 ∷ 1 ∷ []

pub book_bytes : (w : Word) → BookWord (2 ∷ 1 ∷ 15 ∷ 0 ∷ 1 ∷ 16 ∷ 1 ∷ []) w ↔ ((w ≡ hex "1F") ⊎ (w ≡ hex ""))
book_bytes w = (λ h. by h.1 (first_or_later (record { split = refl }) h.0), from)
  where
    no_word : Symbols w → (16 ∷ [] ≡ w) ⊎ Entry w (1 ∷ []) → ⊥
    no_word s (inl e) = omega (arith, (subst Symbols (sym e) s).0)
    no_word s (inr e) = no_entry (λ v rest o. omega (arith, (opens_fits o).0, (opens_fits o).1)) e

    by : Symbols w → (hex "1F" ≡ w) ⊎ Entry w (0 ∷ 1 ∷ 16 ∷ 1 ∷ []) → (w ≡ hex "1F") ⊎ (w ≡ hex "")
    by s (inl e) = inl (sym e)
    by s (inr e) = ⊎_elim (λ f. inr (sym f)) (λ f. absurd (no_word s (first_or_later (record { split = refl }) f))) (first_or_later {v = []} (record { split = refl }) e)

    from : (w ≡ hex "1F") ⊎ (w ≡ hex "") → BookWord bytes w
    from (inl e) = subst (BookWord bytes) (sym e) (first (record { split = refl }), one_f.1)
    from (inr e) = subst (BookWord bytes) (sym e) (later {v = hex "1F"} (record { split = refl }) (first (record { split = refl })), tt)
