-- The rounds of walks, from a table of zeros until nothing changes.
use Rattle.std.proofs.Common.{◌≡◌, ℕ, ◌+◌, ◌*◌, ◌<◌, Bool, false, List, [], replicate, None, sym, refl, ap, ◌∙◌, subst, subst₂, arith}
use Rattle.std.proofs.lemmas.List.{get_or-replicate}
use Rattle.question.specs.Accepts.{Has}
use Rattle.question.specs.Marks.{cell_of, Saturated}
use Rattle.question.specs.Stable.{TrueOf, Sound, Settled, cells_of, Turn, Started}
use Rattle.question.specs.Walks.{Extends, SeenIn}
use Rattle.question.proofs.Bitsets.{none_has}
use Rattle.question.proofs.Deciding.{decided}
use Rattle.question.proofs.Turns.{rows_of}
use Rattle.question.proofs.Walking.{Done}
use Rattle.question.specs.declared.clause.Clause.{Clause}
use Rattle.question.specs.declared.table.Table.{Table}
use Rattle.question.specs.declared.reached.Reached.{Reached}

-- what each round keeps: `first` is the mark of the empty word so far, and t₀ the table at the start
pub record Standing (cs : List Clause) (t₀ t : Table) (first : ℕ) : Type 0 where
  pub same : t.cells.ghost_name ≡ t₀.cells.ghost_name
  pub sound : Sound cs (cells_of t)
  pub start : TrueOf cs first []

-- a table of no bits claims nothing
pub standing_none : (t : Table) → cells_of t ≡ replicate 32768 0 → (cs : List Clause) {first : ℕ} → first ≡ 0 → Standing cs t t first
standing_none t blank cs none = record {
  same = refl;
  sound = λ m a x small letter holds b h. absurd (none_has b (subst (λ v. Has v b) (ap (λ l. cell_of l m a) blank ∙ get_or-replicate 32768 (16 * m + a) 0 0 (omega arith)) h));
  start = λ b h. absurd (none_has b (subst (λ v. Has v b) none h));
}

-- a round: `first` grows from `old`, a list is begun with it, and then there is a walk, which leaves f'
module _ {cs : List Clause} {t₀ t t' : Table} {old first : ℕ} {changed : Bool} (at : Standing cs t₀ t old) (g : Started (◌≡◌ cs) (cells_of t) old first) (turn : Turn (◌≡◌ cs) t t' changed) where
  pub standing_more : Standing cs t₀ t' first
  standing_more = record {
    same = turn.same ∙ at.same;
    sound = turn.sound cs refl at.sound;
    start = g.sound cs refl at.sound at.start;
  }

  pub round_ends : {f f' : Reached} → first < 2048 → changed ≡ false → first ≡ old → Settled cs (cells_of t) 0 None old → SeenIn f first → Extends f f' → ((m : ℕ) → SeenIn f' m → Done cs (cells_of t') f' m) → Saturated cs (cells_of t') first
  round_ends {f' = f'} small quiet stays settled seen extends done = record {
    rows = rows_of t';
    mark = small;
    decided =
        decided (SeenIn f') (rows_of t') standing_more.sound small standing_more.start
        (record {
          start = subst₂ (λ u v. Settled cs u 0 None v) (sym (turn.stays quiet)) (sym stays) settled;
          start_seen = extends.keeps first seen;
          row = λ m is. (done m is).0;
          row_seen = λ m a is letter. (done m is).1 a letter;
        });
  }
