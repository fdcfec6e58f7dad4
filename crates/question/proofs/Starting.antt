-- The mark of the empty word grows.
use Rattle.std.proofs.Common.{◌≡◌, ℕ, ◌+◌, ◌<◌, List, [], length, get_or, Some, None, Option, sym, refl, ◌∙◌, subst, arith, below_more}
use Rattle.std.proofs.lemmas.List.{get_or_default}
use Rattle.question.specs.Accepts.{Stands, Has}
use Rattle.question.specs.Marks.{Rows}
use Rattle.question.specs.Stable.{Fit, Settles, Grown, Started, Starts, beneath}
use Rattle.question.proofs.Bitsets.{none_has}
use Rattle.question.proofs.Growing.{grown_true}
use Rattle.question.specs.declared.clause.Clause.{Clause}

pub started_none : {Given : List Clause → Type 0} {t : List ℕ} {old : ℕ} → Started Given t old old
started_none = record { more = omega arith; sound = λ cs given h true_of. true_of }

-- a clause with no symbol is read at the mark itself
module _ {t : List ℕ} {c : Clause} {old new : ℕ} (rows : Rows t) (small : old < 2048) where
  started_by : Starts c.symbol (Grown t c old old new) (new ≡ old) → Started (Stands c) t old new × (new ≡ old → Settles t 0 None old c)
  started_by = go c.symbol refl
    where
      go : (s : Option ℕ) → c.symbol ≡ s → Starts s (Grown t c old old new) (new ≡ old) → Started (Stands c) t old new × (new ≡ old → Settles t 0 None old c)
      go None none g = (
        record {
          more = g.more;
          sound = λ cs is sound start. grown_true {m = 0} None rows (omega arith) small sound is (rw none tt) (subst (λ s. Grown t c (beneath s 0 old) old new) (sym none) g) [] (λ b h. absurd (none_has b h)) start;
        },
        λ e fit holds. subst (λ v. Has v c.head) e (g.settled (rw none at holds)),
      )
      go (Some a) some e = (
        subst (Started (Stands c) t old) (sym e) started_none,
        λ _ fit holds. absurd (let none : Fit (Some a) None = rw some at fit in let z : ◌≡◌ {A = ℕ} 0 1 = cc in omega arith),
      )

-- ---- the clauses of a list, one after another, those before the place i
pub record Starting (cs : List Clause) (t : List ℕ) (old : ℕ) (i : ℕ) (new : ℕ) : Type 0 where
  pub started : Started (◌≡◌ cs) t old new
  pub done : new ≡ old → (k : ℕ) → k < i → (c : Clause) → get_or cs k c ≡ c → Settles t 0 None old c

pub starting_more : {cs : List Clause} {t : List ℕ} {old i new newer : ℕ} {c : Clause} → Rows t → new < 2048 → i < length cs → c ≡ get_or cs i c → Starting cs t old i new → Starts c.symbol (Grown t c new new newer) (newer ≡ new) → Starting cs t old (i + 1) newer
starting_more {cs} {t} {old} {i} {new} {newer} {c} rows small inside is so_far starts =
    let by = started_by rows small starts in
    let more = by.0 in
    record {
      started = record {
        more = omega (arith, so_far.started.more, more.more);
        sound = λ ds same sound start. more.sound ds (subst (Stands c) same (i, inside, sym is)) sound (so_far.started.sound ds same sound start);
      };
      done = λ e.
          let stays : new ≡ old = omega (arith, so_far.started.more, more.more) in
          below_more _ i (so_far.done stays)
          (λ d at. subst (Settles t 0 None old) (is ∙ get_or_default cs i c d inside ∙ at) (subst (λ v. Settles t 0 None v c) stays (by.1 (e ∙ sym stays))));
    }
