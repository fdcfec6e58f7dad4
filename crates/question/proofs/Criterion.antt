-- A climb has a run where, with some suppliers, the pool serves it, and only there.
use Rattle.std.proofs.Common.{◌≡◌, ℕ, suc, ◌<◌, ◌≤◌, List, map, length, sym, refl, ◌∙◌, arith}
use native.Mathlib.Decide.{dec_lt}
use Rattle.std.specs.List.{range_with_len}
use Rattle.std.proofs.lemmas.List.FromFn.{length-map-range_with_len, get_or-map-range_with_len}
use Rattle.std.proofs.lemmas.List.{get_or_past}
use Rattle.question.specs.Runs.{Word, Rule, Climb, Reaches}
use Rattle.question.specs.Rises.{Rise}
use Rattle.question.specs.Supply.{supplied_by, Supplied}
use Rattle.question.specs.Theorems.{Criterion}
use Rattle.question.proofs.Runs.{climb_rises}
use Rattle.question.proofs.Planning.{fits_less, plan}
use Rattle.question.proofs.Making.{run}

-- The suppliers of n rules, in a list.
module _ (s : ℕ → ℕ) (n : ℕ) where
  abbrev listed : List ℕ
  listed = map s (range_with_len 0 n)

  listed_at : (k : ℕ) → k < n → supplied_by listed k ≡ s k
  listed_at k less = get_or-map-range_with_len s 0 n k k 0 less (omega arith)

  listed_past : (k : ℕ) → n ≤ k → supplied_by listed k ≡ 0
  listed_past k le = get_or_past listed k 0 (omega (arith, length-map-range_with_len s 0 n))

  listed_earlier : ((j : ℕ) → s j ≤ j) → (j : ℕ) → supplied_by listed j ≤ j
  listed_earlier early j = cases (dec_lt j n)
    where
      cases : Dec (j < n) → supplied_by listed j ≤ j
      cases (yes h) = omega (arith, listed_at j h, early j)
      cases (no h) = omega (arith, listed_past j (omega arith))

  listed_same : (k m : ℕ) → supplied_by listed k ≡ suc m → s k ≡ suc m
  listed_same k m e = cases (dec_lt k n)
    where
      cases : Dec (k < n) → s k ≡ suc m
      cases (yes h) = sym (listed_at k h) ∙ e
      cases (no h) = absurd (omega (arith, listed_past k (omega arith)))

module _ (P : Word → Type 0) (rules : List Rule) (p g : ℕ) (added : List Word) (c : Climb) where
  supplied : Reaches rules P p added c g → (suppliers : List ℕ) × Supplied rules c P added suppliers
  supplied r =
      let t = plan rules P c r.1 0 refl in
      let s = t.supplier in
      let n = length c in (
        listed s n,
        record {
          each = length-map-range_with_len s 0 n;
          earlier = listed_earlier s n t.earlier;
          pooled = λ j less e.
              let w = t.ready j (omega arith) less (omega (arith, listed_at s n j less)) in
              (w.0, w.1, fits_less rules P c (supplied_by (listed s n)) s w.2 (λ k m le. listed_same s n k m));
        },
      )

  served : Rise rules p c g → (suppliers : List ℕ) → Supplied rules c P added suppliers → Reaches rules P p added c g
  served r suppliers h = run rules P c (supplied_by suppliers) r h.earlier 0 refl added (λ j low less op. h.pooled j less (omega arith))

pub criterion : (P : Word → Type 0) → Criterion P
criterion P rules p g added c = (
  λ r. (climb_rises rules P r.1, supplied P rules p g added c r),
  λ h. served P rules p g added c h.0 h.1.0 h.1.1,
)
