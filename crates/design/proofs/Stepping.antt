-- From one reading to the next.
use Rattle.std.proofs.Common.{◌≡◌, ℕ, [], Some, None, Ok, Err, Option, Result, ap, ◌∙◌, subst}
use Rattle.std.specs.Option.{ok_or}
use Rattle.design.specs.declared.fault.Refusal.{Refusal}
use Rattle.design.specs.declared.records.Reader.{Reader}
use Rattle.design.specs.declared.records.Record.{Record}
use Rattle.design.specs.Reading.{unread, Taken, Next, NextIf}

module _ {before after : Reader} {o : Option Record} (h : Next before (Ok o) after) where
  pub took : {x : Record} → o ≡ Some x → Taken before x after
  took {x} e = subst (λ (p : Option Record). Next before (Ok p) after) e h

  pub ended : o ≡ None → (unread before ≡ []) × (after ≡ before)
  ended e = subst (λ (p : Option Record). Next before (Ok p) after) e h

-- what was asked for by a byte that is the tag
pub at_tag : {byte tag : ℕ} (before : Reader) (r : Result (Option Record) Refusal) (after : Reader) → byte ≡ tag → NextIf byte before r after → NextIf tag before r after
at_tag before r after e h = subst (λ t. NextIf t before r after) e h

module _ {tag : ℕ} {before after : Reader} {o : Option Record} (h : NextIf tag before (Ok o) after) where
  pub took_if : {x : Record} → o ≡ Some x → (x.tag ≡ tag) × Taken before x after
  took_if {x} e = subst (λ (p : Option Record). NextIf tag before (Ok p) after) e h

-- the error that stands for a value that is missing
pub missing : {T E : Type 0} {o : Option T} {e x : E} → o ≡ None → ◌≡◌ {A = Result T E} (Err e) (ok_or o x) → e ≡ x
missing {T} {E} {o} {e} {x} none is = let f : ◌≡◌ {A = Result T E} (Err e) (Err x) = is ∙ ap (λ p. ok_or p x) none in cc
