-- The ledger settles the whole content of a session's tables.
use Rattle.std.proofs.Common.{◌≡◌, ℕ, suc, ◌+◌, ◌-◌, ◌<◌, ◌≤◌, List, [], ◌∷◌, ◌++◌, map, length, get_or, take, drop, replicate, sym, refl, ap, ◌∙◌, ap₂, arith}
use Rattle.std.proofs.Math.Logic.{∥∥₁_elim}
use Rattle.std.proofs.Props.{props}
use Rattle.std.proofs.lemmas.List.{get_or-drop, length-drop, map-append, take-append-drop}
use Rattle.question.specs.declared.row.Row.{Row}
use Rattle.question.specs.declared.rule.Rule.{Rule as Held}
use Rattle.session.specs.declared.session.Session.{Session}
use Rattle.session.specs.Contents.{place_of, written, rule_place_of, put_down, Content}
use Rattle.session.specs.Limits.{word_limit, heard_places, rule_places}
use Rattle.question.specs.Rows.{held}
use Rattle.question.specs.Rules.{rule_of}
use Rattle.question.specs.Runs.{Word, no_rule}
use Rattle.question.proofs.Laid.{length_held, held_laid}
use Rattle.session.proofs.Tables.{length_items}

-- Each place is as `put` writes what it stands for; so the places in use and the blank ones settle them all.
module _ {X Y Z : Type 0} (f : X → Y) (place : X → Z) (put : Y → Z) (b : Y) (is : (x : X) → place x ≡ put (f x)) where
  used : (xs : List X) → map place xs ≡ map put (map f xs)
  used [] = refl
  used (x ∷ xs) = ap₂ (λ z zs. z ∷ zs) (is x) (used xs)

  blank : (xs : List X) → ((k : ℕ) (d : X) → k < length xs → f (get_or xs k d) ≡ b) → map place xs ≡ replicate (length xs) (put b)
  blank [] h = refl
  blank (x ∷ xs) h = ap₂ (λ z zs. z ∷ zs) (is x ∙ ap put (h 0 x (omega arith))) (blank xs (λ k d lt. h (suc k) d (omega arith)))

  settled : (xs : List X) (n N : ℕ) → length xs ≡ N → ((k : ℕ) (d : X) → n ≤ k → k < N → f (get_or xs k d) ≡ b) →
      map place xs ≡ map put (map f (take n xs)) ++ replicate (N - n) (put b)
  settled xs n N long h =
      let left : length (drop n xs) ≡ N - n = omega (arith, length-drop n xs) in
      let rest : map place (drop n xs) ≡ replicate (length (drop n xs)) (put b) = blank (drop n xs) (λ k d lt. ap f (get_or-drop n xs k d) ∙ h (n + k) d (omega arith) (omega arith)) in
      ap (map place) (sym (take-append-drop n xs)) ∙ map-append place (take n xs) (drop n xs) ∙ ap₂ (λ ys zs. ys ++ zs) (used (take n xs)) (rest ∙ ap (λ k. replicate k (put b)) left)

place_settled : {N : ℕ} (r : Row N) → place_of r ≡ written N (held r)
place_settled r = λ i. record { len = sym (length_held r) i; symbols = held_laid r i }

rule_settled : (r : Held) → rule_place_of r ≡ put_down (rule_of r)
rule_settled r = λ i. record { from = r.from; left = place_settled r.left i; to = r.to; right = place_settled r.right i }

blank_word : (w : Word) → ∥ w ≡ [] ∥₁ → w ≡ []
blank_word w t = ∥∥₁_elim t (hlevel props) (λ e. e)

blank_rule : (r : Held) → ∥ (r.from ≡ 0) × ((held r.left ≡ []) × ((r.to ≡ 0) × (held r.right ≡ []))) ∥₁ → rule_of r ≡ no_rule
blank_rule r t =
    let (from, (left, (to, right))) : (r.from ≡ 0) × ((held r.left ≡ []) × ((r.to ≡ 0) × (held r.right ≡ []))) = ∥∥₁_elim t (hlevel props) (λ e. e) in
    λ i. record { from = from i; left = left i; to = to i; right = right i }

pub content : {O P : Type 0} (s : Session O P) → Content s
content s =
    let h = s.heard in
    let r = s.rules in
    record {
      words_count = sym (length_items h held);
      words = settled held place_of (written word_limit) [] place_settled h.rows.places h.count heard_places h.wide (λ k d low high. blank_word _ (h.unused k d low high))
          ∙ ap (λ n. map (written word_limit) (map held (take h.count h.rows.places)) ++ replicate (heard_places - n) (written word_limit [])) (sym (length_items h held));
      rules_count = sym (length_items r rule_of);
      rules = settled rule_of rule_place_of put_down no_rule rule_settled r.rows.places r.count rule_places r.wide (λ k d low high. blank_rule (get_or r.rows.places k d) (r.unused k d low high))
          ∙ ap (λ n. map put_down (map rule_of (take r.count r.rows.places)) ++ replicate (rule_places - n) (put_down no_rule)) (sym (length_items r rule_of));
    }
