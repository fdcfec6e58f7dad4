-- A sieve reads a saturated table as the table is meant to be read.
use Rattle.std.proofs.Common.{◌≡◌, ℕ, ◌<◌, cond, ◌↔◌, List, [], ◌∷◌, sym, refl, ap, ◌∙◌, subst, arith}
use Rattle.model.specs.Sieves.{mark, next, run}
use Rattle.std.proofs.lemmas.Bool.{lt-ltb}
use Rattle.model.specs.Symbols.{Symbols}
use Rattle.question.specs.Accepts.{Has, Accepts}
use Rattle.question.specs.Marks.{Rows, read_from, Saturated}
use Rattle.question.proofs.Deciding.{read_below}
use Rattle.question.specs.declared.clause.Clause.{Clause}

pub mark_is : (n : ℕ) → n < 2048 → mark n ≡ n
mark_is n small = ap (λ b. cond b n 0) (lt-ltb n 2048 small)

pub run_is : {t : List ℕ} → Rows t → (w : List ℕ) (m : ℕ) → Symbols w → m < 2048 → run t m w ≡ read_from t w m
run_is rows [] m ok small = refl
run_is {t} rows (s ∷ w) m ok small =
    let low = read_below rows w m ok.1 small in
    ap (λ n. next t n s) (run_is rows w m ok.1 small) ∙ mark_is _ (rows.below _ (omega (arith, ok.0)))

-- so a bit is in the mark at which the sieve's reading ends exactly where it accepts the word
pub run_decides : {cs : List Clause} {t : List ℕ} {first : ℕ} → Saturated cs t first → (w : List ℕ) → Symbols w → (b : ℕ) → Has (run t (mark first) w) b ↔ Accepts cs b w
run_decides {cs} {t} {first} s w ok b =
    let is : run t (mark first) w ≡ read_from t w first = ap (λ m. run t m w) (mark_is first s.mark) ∙ run_is s.rows w first ok s.mark in
    subst (λ m. Has m b ↔ Accepts cs b w) (sym is) (s.decided w ok b)
