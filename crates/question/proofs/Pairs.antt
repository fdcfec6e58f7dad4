-- The clauses of a pair of rules of a climb.
use Rattle.std.proofs.Common.{◌≡◌, ℕ, ◌+◌, ◌<◌, ◌≤◌, List, [], ◌++◌, length, sym, ap, ◌∙◌, subst, append_assoc, arith}
use Rattle.std.proofs.lemmas.Bool.{lt-ltb, le-ltb}
use Rattle.std.specs.List.{flat_map, AllByRecursion as All}
use Rattle.question.specs.Lists.{In, between}
use Rattle.question.specs.Runs.{Rule, Climb}
use Rattle.question.specs.Rises.{staying, stage, changing}
use Rattle.question.specs.Rules.{rules_of}
use Rattle.question.specs.Horns.{Bit, base, Horn, by_staying, by_waiting, by_applying, served, horns_for, horns_at}
use Rattle.question.specs.Bits.{bits_of, Met}
use Rattle.question.specs.Coding.{Ready, Adds}
use Rattle.question.specs.declared.bits.Bits.{Bits}
use Rattle.question.specs.declared.clause.Clause.{Clause}
use Rattle.question.specs.declared.rule.Rule.{Rule as Held}
use Rattle.question.proofs.Adding.{adds_then, adds_upto}
use Rattle.question.proofs.Members.{between_first, between_past}
use Rattle.question.proofs.Numbered.{base_listed, staying_met, applying_met}

-- The bits of the pair are in the table.
module _ {table : Bits} {rules : List Held} {climb : Climb} {suppliers : List ℕ} (ready : Ready table rules climb suppliers) where
  pub base_ready : (i j : ℕ) → i ≤ j → j < length climb → In (base i j) (bits_of table)
  base_ready i j le less = subst (In (base i j)) (sym ready.tabled.listed) (base_listed (rules_of rules) climb i j le less)

  pub staying_ready : (i j : ℕ) (r : Rule) → i ≤ j → j < length climb → r ≡ changing (rules_of rules) climb i → All (λ x. Met (bits_of table) i j x.left) (staying (rules_of rules) r.from)
  staying_ready i j r le less is =
      subst (λ x. All (λ y. Met (bits_of table) i j y.left) (staying (rules_of rules) x.from)) (sym is)
      (subst (λ l. All (λ y. Met l i j y.left) (staying (rules_of rules) (stage (rules_of rules) climb i))) (sym ready.tabled.listed) (staying_met (rules_of rules) climb i j le less))

  pub applying_ready : (i : ℕ) (r : Rule) → i < length climb → r ≡ changing (rules_of rules) climb i → Met (bits_of table) i i r.left
  applying_ready i r less is =
      subst (λ x. Met (bits_of table) i i x.left) (sym is) (subst (λ l. Met l i i (changing (rules_of rules) climb i).left) (sym ready.tabled.listed) (applying_met (rules_of rules) climb i less))

module _ (all : List Bit) (rules : List Rule) (climb : Climb) (supplier : ℕ → ℕ) (i j : ℕ) (a b c : List Clause)
    (stays : Adds all 128 (flat_map (by_staying i j) (staying rules (stage rules climb i))) a b) where
  both : (n : ℕ) (hs : List Horn) → n ≤ 4 → Adds all n hs b c → Adds all 132 (flat_map (by_staying i j) (staying rules (stage rules climb i)) ++ hs) a c
  both n hs le p = adds_upto all (128 + n) 132 _ a c (omega arith) (adds_then all 128 n _ hs a b c stays p)

  pub pair_waits : i < j → Adds all 1 (by_waiting i j) b c → Adds all 132 (horns_for rules climb supplier i j) a c
  pair_waits less p = rw (lt-ltb i j less) (both 1 _ (omega arith) p)

  pub pair_applies : (r : Rule) → r ≡ changing rules climb i → i ≤ j → j ≤ i → Adds all 4 (by_applying i r (served supplier (length climb) i)) b c →
      Adds all 132 (horns_for rules climb supplier i j) a c
  pair_applies r is le ge p =
      let same : i ≡ j = omega arith in
      let Applied : ℕ → Type 0 = λ k. Adds all 4 (by_applying k (changing rules climb k) (served supplier (length climb) k)) b c in
      rw (le-ltb i j ge) (both 4 _ (omega arith) (subst Applied same (subst (λ x. Adds all 4 (by_applying i x (served supplier (length climb) i)) b c) is p)))

module _ (rules : List Rule) (climb : Climb) (supplier : ℕ → ℕ) where
  -- The clauses at the stages from the one before rule i on.
  abbrev pub horns_from : ℕ → List Horn
  horns_from i = flat_map (horns_at rules climb supplier) (between i (length climb))

  -- The same, but at the stage before rule i only those for the rules from j on.
  abbrev pub pairs_from : ℕ → ℕ → List Horn
  pairs_from i j = flat_map (horns_for rules climb supplier i) (between j (length climb)) ++ horns_from (i + 1)

  pub pairs_first : (i : ℕ) → i < length climb → horns_from i ≡ pairs_from i i
  pairs_first i less = ap (flat_map (horns_at rules climb supplier)) (between_first i (length climb) less)

  pub pairs_next : (i j : ℕ) → j < length climb → pairs_from i j ≡ horns_for rules climb supplier i j ++ pairs_from i (j + 1)
  pairs_next i j less =
      ap (λ ks. flat_map (horns_for rules climb supplier i) ks ++ horns_from (i + 1)) (between_first j (length climb) less)
      ∙ append_assoc (horns_for rules climb supplier i j) (flat_map (horns_for rules climb supplier i) (between (j + 1) (length climb))) (horns_from (i + 1))

  pub pairs_end : (i j : ℕ) → length climb ≤ j → pairs_from i j ≡ horns_from (i + 1)
  pairs_end i j le = ap (λ ks. flat_map (horns_for rules climb supplier i) ks ++ horns_from (i + 1)) (between_past j (length climb) le)

  pub horns_end : (i : ℕ) → length climb ≤ i → horns_from i ≡ []
  horns_end i le = ap (flat_map (horns_at rules climb supplier)) (between_past i (length climb) le)
