-- The height counts the beginnings.
use Rattle.std.proofs.Common.{◌≡◌, ℕ, ◌≢◌, List, [], ◌∷◌, ◌++◌, Decides, sym, refl, ap, ◌∙◌, arith}
use Rattle.std.specs.List.{flat_map}
use Rattle.std.proofs.lemmas.Bool.Decides.{Decides-eqb, Decides-and}
use Rattle.question.specs.Lists.{In, In.here, In.there}
use Rattle.question.specs.Runs.{Word, Rule}
use Rattle.question.specs.Rises.{beginnings, stays_at, staying, begun}
use Rattle.question.specs.Theorems.{Beginning, HeightCounts}
use Rattle.question.proofs.Lists.{in_kept_by, from_kept_by, in_map, map_in, in_joined, from_joined}
use Rattle.question.proofs.Distinct.{distinct_has, distinct_once}

not_nil : {w : Word} {a : ℕ} → a ∷ w ≢ []
not_nil e = let z : ◌≡◌ {A = ℕ} 0 1 = cc in omega arith

-- u begins w, and is neither empty nor the whole of it.
record Begins (w u : Word) : Type 0 where
  pub rest : Word
  pub parts : w ≡ u ++ rest
  pub not_empty : u ≢ []
  pub not_whole : rest ≢ []

begins : (w u : Word) → In u (beginnings w) → Begins w u
begins [] u i = elim i [ ]
begins (a ∷ []) u i = elim i [ ]
begins (a ∷ (b ∷ w)) u (here e) = record { rest = b ∷ w; parts = rw e refl; not_empty = λ f. not_nil (sym e ∙ f); not_whole = not_nil }
begins (a ∷ (b ∷ w)) u (there i) =
    let m = in_map (λ v. a ∷ v) (beginnings (b ∷ w)) i in
    let t = begins (b ∷ w) m.0 m.1 in
    let e = m.2 in
    record { rest = t.rest; parts = ap (λ (x : Word). a ∷ x) t.parts ∙ ap (λ (x : Word). x ++ t.rest) (sym e); not_empty = λ f. not_nil (sym e ∙ f); not_whole = t.not_whole }

nothing_left : (u r : Word) → [] ≡ u ++ r → r ≡ []
nothing_left [] r e = sym e
nothing_left (a ∷ u) r e = absurd (not_nil (sym e))

begun_in : (w u : Word) → Begins w u → In u (beginnings w)
begun_in w [] t = absurd (t.not_empty refl)
begun_in [] (c ∷ u) t = absurd (not_nil (sym t.parts))
begun_in (a ∷ []) (c ∷ u) t = let e : [] ≡ u ++ t.rest = cc in absurd (t.not_whole (nothing_left u t.rest e))
begun_in (a ∷ (b ∷ w)) (c ∷ []) t = here (cc)
begun_in (a ∷ (b ∷ w)) (c ∷ (d ∷ u)) t =
    let e : a ≡ c = cc in
    let inner = begun_in (b ∷ w) (d ∷ u) (record { rest = t.rest; parts = cc; not_empty = not_nil; not_whole = t.not_whole }) in
    there (rw (sym e) (map_in (λ v. a ∷ v) inner))

pub stays_decides : (p : ℕ) (r : Rule) → Decides (stays_at p r) ((r.from ≡ p) × (r.to ≡ p))
stays_decides p r = Decides-and _ _ (Decides-eqb r.from p) (Decides-eqb r.to p)

module _ (rules : List Rule) (p : ℕ) (u : Word) where
  begun_from : In u (begun rules p) → Beginning rules p u
  begun_from i =
      let (r, kept, of) = from_joined (λ r. beginnings r.left) (staying rules p) ((distinct_has u _).0 i) in
      let (listed, stays) = from_kept_by (stays_at p) rules kept in
      let ends = (stays_decides p r).0 stays in
      let b = begins r.left u of in
      record { by = r; listed = listed; from = ends.0; to = ends.1; rest = b.rest; parts = b.parts; not_empty = b.not_empty; not_whole = b.not_whole }

  begun_into : Beginning rules p u → In u (begun rules p)
  begun_into b =
      let kept = in_kept_by (stays_at p) b.listed ((stays_decides p b.by).1 (b.from, b.to)) in
      let of = begun_in b.by.left u (record { rest = b.rest; parts = b.parts; not_empty = b.not_empty; not_whole = b.not_whole }) in
      (distinct_has u _).1 (in_joined (λ r. beginnings r.left) kept of)

pub height_counts : HeightCounts
height_counts rules p = record { words = begun rules p; size = refl; once = distinct_once (flat_map (λ r. beginnings r.left) (staying rules p)); just = λ u. (begun_into rules p u, begun_from rules p u) }
