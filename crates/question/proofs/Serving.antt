-- The bits that a rule's word has to serve are gathered in a set.
use Rattle.std.proofs.Common.{◌≡◌, ℕ, suc, ◌+◌, ◌<◌, Bool, true, false, cond, eqb, List, [], ◌∷◌, ◌++◌, length, map, filter, sym, ap, ◌∙◌, append_assoc, add-one}
use lib.Bits.{bit_or}
use Rattle.question.specs.Lists.{between}
use Rattle.question.specs.Horns.{Bit, base, served}
use Rattle.question.specs.Coding.{SetOf}
use Rattle.question.proofs.Members.{between_first}
use Rattle.question.proofs.Sets.{set_none, set_or}

module _ (supplier : ℕ → ℕ) (n j k : ℕ) where
  -- The bits for the rules from k on.
  abbrev served_from : List Bit
  served_from = map (base (suc j)) (filter (λ i. eqb (supplier i) (suc j)) (between k n))

-- The set has the bits for the rules before k.
pub record Serving (all : List Bit) (supplier : ℕ → ℕ) (n j k set : ℕ) : Type 0 where
  pub done : List Bit
  pub has : SetOf all done set
  pub rest : done ++ served_from supplier n j k ≡ served supplier n j

pub serving_start : (all : List Bit) (supplier : ℕ → ℕ) (n j : ℕ) → Serving all supplier n j (j + 1) 0
serving_start all supplier n j = record { done = []; has = set_none all; rest = ap (served_from supplier n j) (add-one j) }

module _ {all : List Bit} {supplier : ℕ → ℕ} {n j k set : ℕ} (inv : Serving all supplier n j k set) (less : k < n) where
  -- The bits for the rules from k on, by whether rule j supplies rule k.
  by_test : (t : Bool) → t ≡ eqb (supplier k) (suc j) → served_from supplier n j k ≡ cond t (base (suc j) k ∷ []) [] ++ served_from supplier n j (k + 1)
  by_test t e = ap gather (between_first k n less) ∙ split t e
    where
      gather : List ℕ → List Bit
      gather ks = map (base (suc j)) (filter (λ i. eqb (supplier i) (suc j)) ks)

      split : (t : Bool) → t ≡ eqb (supplier k) (suc j) → gather (k ∷ between (k + 1) n) ≡ cond t (base (suc j) k ∷ []) [] ++ served_from supplier n j (k + 1)
      split true e = ap (λ s. map (base (suc j)) (cond s (k ∷ filter (λ i. eqb (supplier i) (suc j)) (between (k + 1) n)) (filter (λ i. eqb (supplier i) (suc j)) (between (k + 1) n)))) (sym e)
      split false e = ap (λ s. map (base (suc j)) (cond s (k ∷ filter (λ i. eqb (supplier i) (suc j)) (between (k + 1) n)) (filter (λ i. eqb (supplier i) (suc j)) (between (k + 1) n)))) (sym e)

  pub serving_next : (one : ℕ) → true ≡ eqb (supplier k) (suc j) → SetOf all (base (j + 1) k ∷ []) one → Serving all supplier n j (k + 1) (bit_or set one)
  serving_next one e Has-one = record {
    done = inv.done ++ base (j + 1) k ∷ [];
    has = set_or all inv.done _ set one inv.has Has-one;
    rest = append_assoc inv.done (base (j + 1) k ∷ []) (served_from supplier n j (k + 1)) ∙ ap (λ a. inv.done ++ (base a k ∷ served_from supplier n j (k + 1))) (add-one j) ∙ ap (λ l. inv.done ++ l) (sym (by_test true e)) ∙ inv.rest;
  }

  pub serving_skip : false ≡ eqb (supplier k) (suc j) → Serving all supplier n j (k + 1) set
  serving_skip e = record { done = inv.done; has = inv.has; rest = ap (λ l. inv.done ++ l) (sym (by_test false e)) ∙ inv.rest }
