-- One output, used once: rule 0 cannot serve rule 1 and rule 2 both.
use Rattle.std.proofs.Common.{◌≡◌, ℕ, zero, suc, ◌⊎◌, List, [], ◌∷◌, sym, refl, ◌∙◌, inl, inr, arith}
use Rattle.model.specs.Books.{Entry}
use Rattle.model.proofs.Entries.{first_or_later}
use Rattle.question.specs.Runs.{Word, Pool, Climb, Leads, Step, Run, Run.stay, Run.rise, Reaches}
use Rattle.question.specs.Notation.{hex, book}
use Rattle.question.specs.Designs.{sharing}
use Rattle.question.proofs.Meanings.{no_words}

abbrev pub two_words : Word → Type 0
two_words = book ("14F" ∷ "13F" ∷ [])

-- Each word of the book begins with the symbol 1.
begins_with_1 : (w : Word) → two_words w → (rest : Word) × (w ≡ 1 ∷ rest)
begins_with_1 w (e, s) = by (first_or_later (record { split = refl }) e)
  where
    last : (hex "13F" ≡ w) ⊎ Entry w [] → (rest : Word) × (w ≡ 1 ∷ rest)
    last (inl e) = (hex "3F", sym e)
    last (inr e) = absurd (no_words w (e, s))

    by : (hex "14F" ≡ w) ⊎ Entry w (3 ∷ hex "13F") → (rest : Word) × (w ≡ 1 ∷ rest)
    by (inl e) = (hex "4F", sym e)
    by (inr e) = last (first_or_later (record { split = refl }) e)

-- No rule stays.
never_stays : (k p : ℕ) → Leads sharing k p p → ⊥
never_stays zero p a = omega (arith, a.from, a.to)
never_stays (suc zero) p a = omega (arith, a.from, a.to)
never_stays (suc (suc zero)) p a = omega (arith, a.from, a.to)
never_stays (suc (suc (suc k))) p a = omega (arith, a.listed)

-- The first step of a run, and the run after it.
record Begun (k p : ℕ) (added : List Word) (c : Climb) (g : ℕ) (more : List Word) : Type 0 where
  pub next : ℕ
  pub new : Word
  pub by : Step sharing two_words k p next added new
  pub rest : Run sharing two_words next (new ∷ added) c g more

begun : {k p g : ℕ} {added more : List Word} {c : Climb} → Run sharing two_words p added (k ∷ c) g more → Begun k p added c g more
begun (stay {k} {p} s r) = absurd (never_stays k p s.leads)
begun (rise {q = q} {new = new} s n r) = record { next = q; new = new; by = s; rest = r }

-- Rule 1 can only use what rule 0 made, and rule 2 too: it would have to begin with 24 and with 23.
pub not_both : Reaches sharing two_words 0 [] (0 ∷ 1 ∷ 2 ∷ []) 3 → ⊥
not_both r = second (begun r.1)
  where
    clash : {a b : ℕ} {u v w : Word} → w ≡ a ∷ u → w ≡ b ∷ v → a ≡ b
    clash e f = cc

    third : (a b : Word) {p : ℕ} {more : List Word} {v : Word} → a ≡ 2 ∷ 4 ∷ v → b ≡ 5 ∷ v → Begun 2 p (b ∷ a ∷ []) [] 3 more → ⊥
    third a b {v = v} e f d = by d.by.found d.by.makes.before
      where
        by : Pool two_words (b ∷ a ∷ []) d.by.old → d.by.old ≡ 2 ∷ 3 ∷ d.by.makes.rest → ⊥
        by (inl g) h = let z : ◌≡◌ {A = ℕ} 5 2 = clash f (sym g ∙ h) in omega arith
        by (inr (inl g)) h = let z : ◌≡◌ {A = ℕ} 4 3 = cc in omega arith
        by (inr (inr g)) h = let z : ◌≡◌ {A = ℕ} 1 2 = clash (begins_with_1 d.by.old g).1 h in omega arith

    second : {more : List Word} → Begun 0 0 [] (1 ∷ 2 ∷ []) 3 more → ⊥
    second a = by (begun a.rest)
      where
        by : {more : List Word} → Begun 1 a.next (a.new ∷ []) (2 ∷ []) 3 more → ⊥
        by b = on b.by.found b.by.makes.before
          where
            on : Pool two_words (a.new ∷ []) b.by.old → b.by.old ≡ 2 ∷ 4 ∷ b.by.makes.rest → ⊥
            on (inl g) h = third a.new b.new (sym g ∙ h) b.by.makes.after (begun b.rest)
            on (inr g) h = let z : ◌≡◌ {A = ℕ} 1 2 = clash (begins_with_1 b.by.old g).1 h in omega arith
