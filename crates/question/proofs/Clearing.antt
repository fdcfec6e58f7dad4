-- What becomes of a workspace whose first cells are lent.
use Rattle.std.proofs.Common.{◌≡◌, ℕ, List, ◌++◌, length, get_or, replicate, take, drop, ap, ◌∙◌, arith}
use Rattle.std.proofs.lemmas.List.{take-append-drop, get_or_append_left, get_or-replicate, length-replicate}
use Rattle.std.proofs.lemmas.Slice.{drop-append-drop}
use Rattle.question.specs.Judging.{Cleared}

module _ (before cells : List ℕ) where
  pub untouched : cells ≡ take 32768 before → cells ++ drop 32768 before ≡ before
  untouched e = ap (λ l. l ++ drop 32768 before) e ∙ take-append-drop 32768 before

  pub cleared : cells ≡ replicate 32768 0 → Cleared before (cells ++ drop 32768 before)
  cleared blank =
      let long : length cells ≡ 32768 = ap length blank ∙ length-replicate {A = ℕ} 32768 0 in
      record {
        zeros = λ k h. get_or_append_left cells (drop 32768 before) 0 k (omega arith) ∙ ap (λ l. get_or l k 0) blank ∙ get_or-replicate 32768 k 0 0 h;
        rest = drop-append-drop 32768 before cells 32768 (omega arith) long;
      }
