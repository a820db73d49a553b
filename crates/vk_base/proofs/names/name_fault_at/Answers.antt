use Rattle.std.proofs.Common.{arith, sym, take, length, ◌<◌, ◌∙◌}
use Rattle.std.proofs.lemmas.List.{length-take}
use Rattle.std.proofs.lemmas.List.Quantifiers.{position-Some}
use Rattle.vk_base.specs.Names.{rule_of}
use Rattle.vk_base.proofs.NameLemmas.{is_odd}
use Rattle.vk_base.proofs.names.name_fault_at.Goals as goal

pub returns-in-Some-clause-small : goal.returns-in-Some-clause-small
returns-in-Some-clause-small c =
    let within = position-Some (is_odd (rule_of c.args.rule)) c.front_of.result.now c.in-Some.at 0 (sym c.odd_byte_at.ensures ∙ c.in-Some.is) in
    let front : c.in-Some.at < length (take 200 c.args.bytes.now) = rw (← c.front_of.ensures) within.0 in
    omega (arith, length-take 200 c.args.bytes.now)
