-- A word is read symbol by symbol, the last first.
use Rattle.std.proofs.Common.{◌≡◌, ℕ, suc, ◌-◌, ◌≤◌, List, [], ◌∷◌, ◌++◌, length, get_or, take, sym, ap, ◌∙◌, subst, arith}
use Rattle.std.proofs.Math.Seq.{take-length, take-suc}
use Rattle.model.specs.Symbols.{Symbols}
use Rattle.question.specs.Marks.{cell_of, read_from}
use Rattle.question.proofs.Deciding.{read_append}

-- of the word w, what comes before `rest` ends is left to read, from the mark m on
pub record Reading (t w : List ℕ) (from : ℕ) (rest : List ℕ) (m : ℕ) : Type 0 where
  pub is : read_from t rest m ≡ read_from t w from
  pub symbols : Symbols rest

front_symbols : (xs ys : List ℕ) → Symbols (xs ++ ys) → Symbols xs
front_symbols [] ys ok = tt
front_symbols (x ∷ xs) ys ok = (ok.0, front_symbols xs ys ok.1)

pub reading_more : {t w : List ℕ} {from : ℕ} {rest : List ℕ} {m : ℕ} → 1 ≤ length rest → Reading t w from rest m →
    Reading t w from (take (length rest - 1) rest) (cell_of t m (get_or rest (length rest - 1) 0))
reading_more {t} {rest = rest} {m = m} some h =
    let front = take (length rest - 1) rest in
    let a = get_or rest (length rest - 1) 0 in
    let all : length rest ≡ suc (length rest - 1) = omega arith in
    let step : rest ≡ front ++ a ∷ [] = sym (take-length rest) ∙ ap (λ (k : ℕ). take k rest) all ∙ take-suc rest (length rest - 1) 0 (omega arith) in
    record {
      is = sym (read_append t front (a ∷ []) m) ∙ ap (λ u. read_from t u m) (sym step) ∙ h.is;
      symbols = front_symbols front (a ∷ []) (subst Symbols step h.symbols);
    }
