use Rattle.std.proofs.Common.{◌≡◌, Some, map, rules, tests, sym, refl, ap, ◌∙◌, subst, arith}
use lib.ListN.{length-map}
use Rattle.std.specs.Option.{unwrap_or}
use Rattle.std.proofs.lemmas.Iterator.{YieldsList-from_slice}
use Rattle.std.proofs.lemmas.Iterator.Search.{position_from_yields_List}
use Rattle.question.specs.Lists.{In}
use Rattle.question.specs.Horns.{bit}
use Rattle.question.specs.Bits.{same_bit, place, bit_of, bits_of}
use Rattle.question.proofs.Numbered.{place_below}
use Rattle.question.proofs.Sets.{place_found}
use Rattle.question.proofs.bits.Bits.number.Goals as goal
use Rattle.question.proofs.bits.Bits.number.Goals.{After-position-place}

found : (c : After-position-place) → c.position-place.result ≡ Some (place (bit c.args.at c.args.goal c.args.begun.now) (bits_of c.args.self.now))
found c =
    let b = bit c.args.at c.args.goal c.args.begun.now in
    let slots = c.as_slice-slots.result.now in
    let same = c.as_slice-slots.ensures.value in
    position_from_yields_List (λ s. same_bit b (bit_of s)) _ _ c.position-place.result c.position-place.ensures.ran (YieldsList-from_slice slots cc) (λ s t q k. search (rules, tests))
    ∙ place_found b slots (subst (λ l. In b (map bit_of l)) (sym same) c.requires)
    ∙ ap (λ l. Some (place b (map bit_of l))) same

pub unwrap-requires : goal.unwrap-requires
unwrap-requires c = rw (found (goal.at.unwrap-requires c).After-position-place) refl

pub returns : goal.returns
returns c =
    let is = ap (λ o. unwrap_or o 0) (sym c.unwrap.ensures ∙ found (goal.at.returns c).After-position-place) in
    record {
      is = is;
      below = omega (arith, is, place_below c.requires, length-map c.args.self.now.slots.items bit_of, c.args.self.now.short);
    }
