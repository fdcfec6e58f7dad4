-- What a turn does to the table.
use Rattle.std.proofs.Common.{◌≡◌, ℕ, ◌+◌, ◌-◌, ◌*◌, ◌<◌, ◌≤◌, Bool, true, false, not, ◌||◌, eqb, List, ◌∷◌, length, get_or, set, Some, sym, ap, ◌∙◌, subst, subst₂, ⊎_elim, arith, get_or-set_other, get_or-set_same, below_more}
use Rattle.std.proofs.lemmas.List.{set-get_or}
use Rattle.std.proofs.lemmas.List.Sums.{sum_by-set}
use Rattle.std.proofs.lemmas.Bool.{cases_eq, cases_Bool, or_cases, or_parts, not-true, not-false, eqb-true, eqb-false}
use Rattle.question.specs.Accepts.{Stands}
use Rattle.question.specs.Marks.{Rows, cell_of}
use Rattle.question.specs.Stable.{TrueOf, Sound, Fit, beneath, RowSettles, Grown, room, cells_of, Turn}
use Rattle.question.proofs.Growing.{grown_true}
use Rattle.question.specs.declared.clause.Clause.{Clause}
use Rattle.question.specs.declared.table.Table.{Table}

-- the facts that a table keeps of its cells
pub rows_of : (t : Table) → Rows (cells_of t)
rows_of t = record { long = t.long; below = t.below }

-- ---- the cell of m and a takes the value v, which the clause c makes of it
module _ {t : List ℕ} {c : Clause} {m a from v : ℕ} (rows : Rows t) (place : (m < 2048) × (a < 16)) (fit : Fit c.symbol (Some a)) (at : from ≡ beneath c.symbol m (cell_of t m a)) (grown : Grown t c from (cell_of t m a) v) (below : v < 2048) where
  g : Grown t c (beneath c.symbol m (cell_of t m a)) (cell_of t m a) v
  g = subst (λ n. Grown t c n (cell_of t m a) v) at grown

  abbrev after : List ℕ
  after = set t (16 * m + a) v

  in_range : 16 * m + a < length t
  in_range = omega (arith, rows.long)

  cell_is : cell_of after m a ≡ v
  cell_is = get_or-set_same t (16 * m + a) v 0 in_range

  set_sound : (cs : List Clause) → Stands c cs → Sound cs t → Sound cs after
  set_sound cs is s n b x small letter true_n =
      ⊎_elim
      (λ e.
      let same_mark : n ≡ m = omega arith in
      let same_symbol : b ≡ a = omega arith in
      subst₂ (λ k d. TrueOf cs k x → TrueOf cs (cell_of after k d) (d ∷ x)) (sym same_mark) (sym same_symbol)
      (λ true_m. subst (λ u. TrueOf cs u (a ∷ x)) (sym cell_is) (grown_true (Some a) rows place.0 (rows.below _ (omega arith)) s is fit g x true_m (s m a x place.0 place.1 true_m)))
      true_n)
      (λ ne. subst (λ u. TrueOf cs u (b ∷ x)) (sym (get_or-set_other t (16 * m + a) (16 * n + b) v 0 ne)) (s n b x small letter true_n))
      (cases_eq (16 * n + b) (16 * m + a))

  same_from : not (eqb v (cell_of t m a)) ≡ false → v ≡ cell_of t m a
  same_from e = eqb-true _ _ (not-false _ e)

  set_falls : not (eqb v (cell_of t m a)) ≡ true → room after < room t
  set_falls e = omega (arith, eqb-false _ _ (not-true _ e), sum_by-set (λ u. 2047 - u) t (16 * m + a) v 0 in_range, g.more, below)

  set_stays : not (eqb v (cell_of t m a)) ≡ false → after ≡ t
  set_stays e = ap (set t (16 * m + a)) (same_from e) ∙ set-get_or t (16 * m + a) 0

-- the table t' borrows those cells after that
module _ (t t' : Table) {c : Clause} {m a from old v : ℕ} (place : (m < 2048) × (a < 16)) (fit : Fit c.symbol (Some a)) (read : old ≡ cell_of (cells_of t) m a) (at : from ≡ beneath c.symbol m old) (grown : Grown (cells_of t) c from old v) (below : v < 2048) (same : t'.cells.ghost_name ≡ t.cells.ghost_name) (is : cells_of t' ≡ set (cells_of t) (16 * m + a) v) where
  at_cell : from ≡ beneath c.symbol m (cell_of (cells_of t) m a)
  at_cell = at ∙ ap (beneath c.symbol m) read

  grown_cell : Grown (cells_of t) c from (cell_of (cells_of t) m a) v
  grown_cell = subst (λ n. Grown (cells_of t) c from n v) read grown

  differs : not (eqb v (cell_of (cells_of t) m a)) ≡ not (eqb v old)
  differs = ap (λ n. not (eqb v n)) (sym read)

  pub cell_turn : Turn (Stands c) t t' (not (eqb v old))
  cell_turn = record {
    same = same;
    sound = λ cs stands h. subst (Sound cs) (sym is) (set_sound (rows_of t) place fit at_cell grown_cell below cs stands h);
    falls = λ e. subst (λ u. room u < room (cells_of t)) (sym is) (set_falls (rows_of t) place fit at_cell grown_cell below (differs ∙ e));
    stays = λ e. is ∙ set_stays (rows_of t) place fit at_cell grown_cell below (differs ∙ e);
  }

-- ---- one turn after another
room_stays : {Given : List Clause → Type 0} {t t' : Table} {changed : Bool} → Turn Given t t' changed → room (cells_of t') ≤ room (cells_of t)
room_stays {changed = changed} h = ⊎_elim (λ e. omega (arith, h.falls e)) (λ e. omega (arith, ap room (h.stays e))) (cases_Bool changed)

turn_then : {Given : List Clause → Type 0} {t t' t'' : Table} {before now : Bool} → Turn Given t t' before → Turn Given t' t'' now → Turn Given t t'' (before || now)
turn_then {before = before} {now = now} one two = record {
  same = two.same ∙ one.same;
  sound = λ cs given h. two.sound cs given (one.sound cs given h);
  falls = λ e. ⊎_elim (λ y. omega (arith, one.falls y, room_stays two)) (λ y. omega (arith, two.falls y, room_stays one)) (or_cases before now e);
  stays = λ e. let parts = or_parts before now e in two.stays parts.1 ∙ one.stays parts.0;
}

-- ---- a loop of turns: if no cell changed so far, P holds of each index before n
pub record Sweep (Given : List Clause → Type 0) (P : List ℕ → ℕ → Type 0) (t : Table) (n : ℕ) (t' : Table) (changed : Bool) : Type 0 where
  pub turn : Turn Given t t' changed
  pub done : changed ≡ false → (k : ℕ) → k < n → P (cells_of t') k

module _ {Given : List Clause → Type 0} {P : List ℕ → ℕ → Type 0} {t : Table} where
  -- Q is P after the turn
  pub sweep_more : {Q : List ℕ → ℕ → Type 0} {n : ℕ} {t' t'' : Table} {before now : Bool} → Sweep Given P t n t' before → Turn Given t' t'' now → ((k : ℕ) → k < n → P (cells_of t') k → Q (cells_of t') k) → (now ≡ false → Q (cells_of t'') n) → Sweep Given Q t (n + 1) t'' (before || now)
  sweep_more {Q} {n} {before = before} {now = now} h turn stays here = record {
    turn = turn_then h.turn turn;
    done = λ e.
        let parts = or_parts before now e in
        below_more _ n (λ k l. subst (λ u. Q u k) (sym (turn.stays parts.1)) (stays k l (h.done parts.0 k l))) (here parts.1);
  }

-- ---- the clauses of a list, one after another
-- the clause at the place k adds no bit to a cell of m
abbrev pub SettlesAt : List Clause → ℕ → List ℕ → ℕ → Type 0
SettlesAt cs m t k = (c : Clause) → get_or cs k c ≡ c → RowSettles t m c
