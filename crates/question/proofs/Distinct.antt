-- `distinct` has the same words, each once.
use Rattle.std.proofs.Common.{◌≡◌, ℕ, Bool, true, false, cond, ◌⊎◌, ◌↔◌, List, [], ◌∷◌, ◌++◌, Decides, sym, refl, subst, inl, inr, ⊎_elim, arith}
use Rattle.std.specs.Str.{bytes_eq}
use Rattle.std.proofs.lemmas.Slice.Eq.{bytes_eq-Decides}
use Rattle.std.proofs.lemmas.Bool.Decides.{not_from_Decides}
use Rattle.question.specs.Lists.{In, In.here, In.there, Once}
use Rattle.question.specs.Runs.{Word}
use Rattle.question.specs.Rises.{among, kept, distinct}
use Rattle.question.proofs.Lists.{in_left, in_right, in_either, once_push}

pub among_decides : (u : Word) (us : List Word) → Decides (among u us) (In u us)
among_decides u [] = (λ e. let z : ◌≡◌ {A = ℕ} 0 1 = cc in absurd (omega arith), λ i. elim i [ ])
among_decides u (v ∷ us) = by (bytes_eq u v) (bytes_eq-Decides u v) (among_decides u us)
  where
    other : Decides false (u ≡ v) → (In u us → among u us ≡ true) → In u (v ∷ us) → among u us ≡ true
    other d r (here e) = let y : false ≡ true = d.1 e in let z : ◌≡◌ {A = ℕ} 0 1 = cc in absurd (omega arith)
    other d r (there i) = r i

    by : (b : Bool) → Decides b (u ≡ v) → Decides (among u us) (In u us) → Decides (cond b true (among u us)) (In u (v ∷ us))
    by true d r = (λ e. here (d.0 refl), λ i. refl)
    by false d r = (λ e. there (r.0 e), other d r.1)

-- One word more, if it is not among them yet.
abbrev with_word : List Word → Word → List Word
with_word seen u = cond (among u seen) seen (seen ++ (u ∷ []))

with_word_has : (seen : List Word) (u w : Word) → In w (with_word seen u) ↔ (In w seen ⊎ (w ≡ u))
with_word_has seen u w = by (among u seen) (among_decides u seen)
  where
    last : In w (u ∷ []) → In w seen ⊎ (w ≡ u)
    last (here e) = inr e
    last (there i) = elim i [ ]

    by : (b : Bool) → Decides b (In u seen) → In w (cond b seen (seen ++ (u ∷ []))) ↔ (In w seen ⊎ (w ≡ u))
    by true d = (inl, ⊎_elim (λ i. i) (λ e. subst (λ x. In x seen) (sym e) (d.0 refl)))
    by false d = (λ i. ⊎_elim inl last (in_either seen i), ⊎_elim (in_left (u ∷ [])) (λ e. in_right seen (here e)))

with_word_once : (seen : List Word) (u : Word) → Once seen → Once (with_word seen u)
with_word_once seen u o = by (among u seen) (among_decides u seen)
  where
    by : (b : Bool) → Decides b (In u seen) → Once (cond b seen (seen ++ (u ∷ [])))
    by true d = o
    by false d = once_push seen u o (not_from_Decides false d refl)

kept_has : (w : Word) (seen us : List Word) → In w (kept seen us) ↔ (In w seen ⊎ In w us)
kept_has w seen [] = (inl, ⊎_elim (λ i. i) (λ i. elim i [ ]))
kept_has w seen (u ∷ us) = let rest = kept_has w (with_word seen u) us in let now = with_word_has seen u w in (
  λ i. ⊎_elim (λ j. ⊎_elim inl (λ e. inr (here e)) (now.0 j)) (λ j. inr (there j)) (rest.0 i),
  ⊎_elim (λ i. rest.1 (inl (now.1 (inl i)))) (later (λ e. rest.1 (inl (now.1 (inr e)))) (λ i. rest.1 (inr i))),
)
  where
    later : {Z : Type 0} → (w ≡ u → Z) → (In w us → Z) → In w (u ∷ us) → Z
    later f g (here e) = f e
    later f g (there i) = g i

kept_once : (seen us : List Word) → Once seen → Once (kept seen us)
kept_once seen [] o = o
kept_once seen (u ∷ us) o = kept_once (with_word seen u) us (with_word_once seen u o)

pub distinct_has : (w : Word) (us : List Word) → In w (distinct us) ↔ In w us
distinct_has w us = let t = kept_has w [] us in (λ i. ⊎_elim (λ j. elim j [ ]) (λ j. j) (t.0 i), λ i. t.1 (inr i))

pub distinct_once : (us : List Word) → Once (distinct us)
distinct_once us = kept_once [] us tt
