-- Clauses over numbers accept what the clauses over bits accept.
use Rattle.std.proofs.Common.{◌≡◌, ℕ, zero, suc, ◌<◌, List, ◌∷◌, ◌++◌, length, get_or, sym, refl, ap, ◌∙◌, subst, subst₂, arith}
use Rattle.std.specs.List.{AllByRecursion as All}
use Rattle.question.specs.Lists.{In, In.here, In.there}
use Rattle.question.specs.Runs.{Word, Rule, Climb}
use Rattle.question.specs.Supply.{supplied_by}
use Rattle.question.specs.Accepts.{Stands, under, Accepts, Accepts.by as by_number}
use Rattle.question.specs.Horns.{Bit, base, Horn, Derives, Derives.by, horns}
use Rattle.question.specs.Bits.{place, bits}
use Rattle.question.specs.Coding.{Coded, Coding, Coding.none, Coding.next, Right}
use Rattle.question.specs.declared.clause.Clause.{Clause}
use Rattle.question.proofs.Members.{all_in}
use Rattle.question.proofs.Numbered.{places_apart, place_first, base_listed, known}
use Rattle.question.proofs.Compiled.{derives_fits}

module _ {all : List Bit} where
  -- The clause over numbers of a clause over bits, and back.
  coded : {hs : List Horn} {cs : List Clause} → Coding all hs cs → {h : Horn} → In h hs → (c : Clause) × Stands c cs × Coded all h c
  coded none i = elim i [ ]
  coded (next {c = c} k rest) (here e) = (c, (0, omega arith, refl), subst (λ h. Coded all h c) (sym e) k)
  coded (next k rest) (there i) = let r = coded rest i in (r.0, (suc r.1.0, omega (arith, r.1.1), r.1.2), r.2)

  meant : {hs : List Horn} {cs : List Clause} → Coding all hs cs → {c : Clause} (k : ℕ) → k < length cs → get_or cs k c ≡ c → (h : Horn) × In h hs × Coded all h c
  meant none k less e = absurd (omega arith)
  meant (next {h = h} k rest) zero less e = (h, here refl, subst (Coded all h) e k)
  meant (next k rest) (suc m) less e = let r = meant rest m (omega arith) e in (r.0, there r.1, r.2)

  module _ {hs : List Horn} {cs : List Clause} (coding : Coding all hs cs) (known : All (λ h. All (λ b. In b all) (h.head ∷ h.body)) hs) where
    to_numbers : {b : Bit} {x : Word} → Derives hs b x → Accepts cs (place b all) x
    to_numbers (by h x i d) =
        let r = coded coding i in
        subst₂ (Accepts cs) r.2.head_is (ap (λ s. under s x) r.2.symbol_is)
        (by_number r.0 x r.1 (λ m k.
        let b = (r.2.body_is m).0 k in
        subst₂ (Accepts cs) (sym b.2) (ap (λ w. w ++ x) (sym r.2.word_is)) (to_numbers (d b.0 b.1))))

    from_numbers : {m : ℕ} {x : Word} → Accepts cs m x → (b : Bit) → In b all → m ≡ place b all → Derives hs b x
    from_numbers (by_number c x s d) b i e =
        let r = meant coding s.0 s.1 s.2 in
        let h = r.0 in
        let k = all_in _ known r.1 in
        subst₂ (Derives hs) (places_apart all h.head b k.0 i (sym r.2.head_is ∙ e)) (ap (λ s. under s x) (sym r.2.symbol_is))
        (by h x r.1 (λ a j.
        subst (Derives hs a) (ap (λ w. w ++ x) r.2.word_is) (from_numbers (d _ ((r.2.body_is (place a all)).1 (a, j, refl))) a (all_in _ k.1 j) refl)))

pub coding_right : (rules : List Rule) (climb : Climb) (suppliers : List ℕ) (cs : List Clause) →
    Coding (bits rules climb) (horns rules climb (supplied_by suppliers)) cs → Right rules climb suppliers cs
coding_right rules climb suppliers cs coding j less w =
    let s = supplied_by suppliers in
    let first = place_first rules climb j less in
    let fits = derives_fits rules climb s 0 j w (omega arith) less in (
      λ a. fits.0 (from_numbers coding (known rules climb s) a (base 0 j) (base_listed rules climb 0 j (omega arith) less) (sym first)),
      λ f. subst (λ m. Accepts cs m w) first (to_numbers coding (known rules climb s) (fits.1 f)),
    )
