-- Clauses that are added one after another.
use Rattle.std.proofs.Common.{◌≡◌, ℕ, ◌+◌, ◌*◌, ◌≤◌, List, [], ◌∷◌, ◌++◌, length, sym, ap, ◌∙◌, subst, append_assoc, append-nil, arith}
use Rattle.std.proofs.lemmas.List.{length_push}
use Rattle.std.proofs.lemmas.Grind.{flat_map-append}
use Rattle.std.specs.List.{flat_map}
use Rattle.question.specs.Horns.{Bit, Horn}
use Rattle.question.specs.Coding.{Coded, Coding, Coding.none, Coding.next, Appends, Adds}
use Rattle.question.specs.declared.clause.Clause.{Clause}

module _ (all : List Bit) where
  coding_push : {h : Horn} (c : Clause) {hs : List Horn} {cs : List Clause} → Coding all hs cs → Coded all h c → Coding all (hs ++ h ∷ []) (cs ++ c ∷ [])
  coding_push c none k = next k none
  coding_push c (next j rest) k = next j (coding_push c rest k)

  pub adds_one : (h : Horn) (c : Clause) (before after : List Clause) → after ≡ before ++ c ∷ [] → Coded all h c → Adds all 1 (h ∷ []) before after
  adds_one h c before after e k = record {
    coded = λ done coding. subst (Coding all (done ++ h ∷ [])) (sym e) (coding_push c coding k);
    few = omega (arith, length_push before c, ap length e);
  }

  appends_then : (hs gs : List Horn) (a b c : List Clause) → Appends all hs a b → Appends all gs b c → Appends all (hs ++ gs) a c
  appends_then hs gs a b c p q done coding = subst (λ l. Coding all l c) (append_assoc done hs gs) (q (done ++ hs) (p done coding))

  pub adds_then : (m n : ℕ) (hs gs : List Horn) (a b c : List Clause) → Adds all m hs a b → Adds all n gs b c → Adds all (m + n) (hs ++ gs) a c
  adds_then m n hs gs a b c p q = record { coded = appends_then hs gs a b c p.coded q.coded; few = omega (arith, p.few, q.few) }

  pub adds_upto : (m n : ℕ) (hs : List Horn) (a b : List Clause) → m ≤ n → Adds all m hs a b → Adds all n hs a b
  adds_upto m n hs a b le p = record { coded = p.coded; few = omega (arith, p.few) }

  -- The clauses for one item more, where each has at most four.
  pub adds_item : {A : Type 0} (f : A → List Horn) (seen : List A) (x : A) (a b c : List Clause) → Adds all (4 * length seen) (flat_map f seen) a b → Adds all 4 (f x) b c →
      Adds all (4 * length (seen ++ x ∷ [])) (flat_map f (seen ++ x ∷ [])) a c
  adds_item f seen x a b c p q =
      let more = flat_map-append f seen (x ∷ []) ∙ ap (λ l. flat_map f seen ++ l) (append-nil (f x)) in
      subst (λ hs. Adds all (4 * length (seen ++ x ∷ [])) hs a c) (sym more)
      (adds_upto (4 * length seen + 4) (4 * length (seen ++ x ∷ [])) _ a c (omega (arith, length_push seen x)) (adds_then (4 * length seen) 4 _ _ a b c p q))

-- Whoever adds the clauses `left` to `now` has added `whole` to `before`; at most m were added so far.
pub record Adding (all : List Bit) (whole : List Horn) (before : List Clause) (left : List Horn) (m : ℕ) (now : List Clause) : Type 0 where
  pub rest : (after : List Clause) → Appends all left now after → Appends all whole before after
  pub few : length now ≤ length before + m

module _ {all : List Bit} {whole : List Horn} {before : List Clause} {left : List Horn} {m : ℕ} {now : List Clause} (inv : Adding all whole before left m now) where
  pub adding_next : (hs rest : List Horn) (k n : ℕ) (now' : List Clause) → left ≡ hs ++ rest → m + k ≤ n → Adds all k hs now now' → Adding all whole before rest n now'
  adding_next hs rest k n now' step le p = record {
    rest = λ after q. inv.rest after (subst (λ l. Appends all l now after) (sym step) (appends_then all hs rest now now' after p.coded q));
    few = omega (arith, inv.few, p.few);
  }

  pub adding_skip : (rest : List Horn) (n : ℕ) → left ≡ rest → m ≤ n → Adding all whole before rest n now
  adding_skip rest n step le = record { rest = λ after q. inv.rest after (subst (λ l. Appends all l now after) (sym step) q); few = omega (arith, inv.few) }

  pub adding_end : (most : ℕ) → left ≡ [] → m ≤ most → Adds all most whole before now
  adding_end most e le = record {
    coded = inv.rest now (subst (λ hs. Appends all hs now now) (sym e) (λ done coding. rw append-nil coding));
    few = omega (arith, inv.few);
  }
