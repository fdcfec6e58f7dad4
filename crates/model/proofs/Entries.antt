-- Taking the first entry off a book.
use Rattle.std.proofs.Common.{Bool, true, false, Option, Some, None, MatchOption, Bor, Decides, subst, ⊎_elim, ◌≡◌, ℕ, suc, ◌+◌, ◌⊎◌, List, [], ◌∷◌, ◌++◌, length, get_or, take, drop, sym, refl, ap, ◌∙◌, inl, inr, length-append}
use Rattle.std.proofs.lemmas.List.{take_at, drop_at}
use Rattle.std.proofs.lemmas.Bool.{both_ways, false≢true}
use Rattle.std.proofs.lemmas.Bool.Decides.{Decides-like}
use Rattle.std.specs.Fn.{Mut, Called}
use Rattle.std.specs.Iterator.{ChecksAny, Yields}
use Rattle.std.specs.List.{FoldsTo}
use Rattle.model.specs.Books.{Opens, Spent, Entry, first, later}

-- The length byte says how long the entry is, and the bytes after it have room for it.
pub opens_fits : {bytes v rest : List ℕ} → Opens bytes v rest → (get_or bytes 0 0 ≡ length v) × (length bytes ≡ suc (length v + length rest))
opens_fits {bytes} {v} {rest} o = (ap (λ l. get_or l 0 0) o.split, ap length o.split ∙ ap suc (length-append v rest))

-- They open with one entry only.
pub one_opening : {bytes v w rest rest' : List ℕ} → Opens bytes v rest → Opens bytes w rest' → (v ≡ w) × (rest ≡ rest')
one_opening {bytes} {v} {w} {rest} {rest'} o q =
    let long : length v ≡ length w = sym (opens_fits o).0 ∙ (opens_fits q).0 in
    let tails : v ++ rest ≡ w ++ rest' = ap (drop 1) (sym o.split ∙ q.split) in (
      sym (take_at v rest (length w) long) ∙ ap (take (length w)) tails ∙ take_at w rest' (length w) refl,
      sym (drop_at v rest (length w) long) ∙ ap (drop (length w)) tails ∙ drop_at w rest' (length w) refl,
    )

-- Where there is no first entry there is none.
pub none : {bytes w : List ℕ} → Spent bytes → Entry w bytes → ⊥
none closed (first o) = closed _ _ o
none closed (later o t) = closed _ _ o

-- An entry is the first, or one of the rest.
pub first_or_later : {bytes v rest w : List ℕ} → Opens bytes v rest → Entry w bytes → (v ≡ w) ⊎ Entry w rest
first_or_later o (first q) = inl (one_opening o q).0
first_or_later {w = w} o (later {rest = rest} q t) = inr (rw (one_opening o q).1 t)

-- `any` over an iterator that gives entries, where the test decides P.
module _ {S F : Type 0} (bytes : S → List ℕ) (g : Mut F (Bor (List ℕ) × Unit {0}) Bool) (f : F) (P : List ℕ → Type 0)
    (acts : (x : Bor (List ℕ)) (b : Bool) (q : F) → Called g f (x, tt) b q → (q ≡ f) × Decides b (P x.now)) where
  abbrev Steps : S → Option (Bor (List ℕ)) → S → Type 0
  Steps s e t = MatchOption e (Spent (bytes s)) (λ v. Opens (bytes s) v.now (bytes t))

  abbrev Within : S → Type 0
  Within s = (w : List ℕ) × Entry w (bytes s) × P w

  at_end : (r : Bool) (s u : S) (e : Option (Bor (List ℕ))) (p : F) → p ≡ f → Steps s e u
      → MatchOption e (r ≡ false) (λ x. (r ≡ true) × ((q : F) × Called g p (x, tt) true q)) → Decides r (Within s)
  at_end r s u None p same spent missed = (λ t. absurd (both_ways r missed t), λ h. absurd (none spent h.1))
  at_end r s u (Some x) p same opened hit =
      let act = acts x true hit.1.0 (subst (λ p. Called g p (x, tt) true hit.1.0) same hit.1.1) in
      (λ _. (x.now, first opened, act.1.0 refl), λ _. hit.0)

  along : (r : Bool) (xs : List (Bor (List ℕ))) (s t u : S) (e : Option (Bor (List ℕ))) (p p' : F) → p ≡ f → Yields Steps s xs t → FoldsTo (λ p x q. Called g p (x, tt) false q) p xs p' → Steps t e u
      → MatchOption e (r ≡ false) (λ x. (r ≡ true) × ((q : F) × Called g p' (x, tt) true q)) → Decides r (Within s)
  along r [] s t u e p p' same gave folds last end = subst (λ s. Decides r (Within s)) (sym gave) (at_end r t u e p' (sym folds ∙ same) last end)
  along r (x ∷ xs) s t u e p p' same gave folds last end =
      let act = acts x false folds.0 (subst (λ p. Called g p (x, tt) false folds.0) same folds.1) in
      Decides-like r
      (λ h. (h.0, later gave.1 h.1, h.2))
      (λ h. ⊎_elim
      (λ here. absurd (false≢true (act.1.1 (subst P (sym here) h.2))))
      (λ below. (h.0, below, h.2))
      (first_or_later gave.1 h.1))
      (along r xs gave.0 t u e folds.0 p' act.0 gave.2 folds.2 last end)

  pub any_entry : (r : Bool) (s u : S) → ChecksAny Steps g s f r u → Decides r (Within s)
  any_entry r s u ran = along r ran.0 s ran.3.0 u ran.1 f ran.2 refl ran.3.1 ran.4 ran.3.2 ran.5
