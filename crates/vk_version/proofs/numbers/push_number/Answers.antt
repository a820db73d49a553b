use Rattle.std.proofs.Common.{◌<◌, ◌^◌, refl, arith}
use Rattle.vk_version.proofs.DigitLemmas.{number_found, number_past}
use Rattle.vk_version.proofs.numbers.push_number.Goals as goal

pub returns-in_ok-push-in-Some-clause-fits : goal.returns-in_ok-push-in-Some-clause-fits
returns-in_ok-push-in-Some-clause-fits c =
    let small : c.in-Some.number < 2 ^ 64 = (rw c.in-Some.is at c.read_u64.type_inv).1.1.1.1.0.1 in
    let found =
    number_found c.args.digits.now c.in-Some.number (2 ^ 64) small small c.in-Some.ensures.found in
    rw found.0 refl

pub returns-in_ok-push-in-Some-clause-ok : goal.returns-in_ok-push-in-Some-clause-ok
returns-in_ok-push-in-Some-clause-ok c =
    let small : c.in-Some.number < 2 ^ 64 = (rw c.in-Some.is at c.read_u64.type_inv).1.1.1.1.0.1 in
    let found =
    number_found c.args.digits.now c.in-Some.number (2 ^ 64) small small c.in-Some.ensures.found in
    rw found.1 c.in_ok-push-in-Some.ensures.ok

pub returns-in-None-clause-fits : goal.returns-in-None-clause-fits
returns-in-None-clause-fits c =
    let past =
    number_past c.args.digits.now (2 ^ 64) (omega arith) c.requires
    (λ n small e. (cc (c.read_u64.ensures.known n small e, c.in-None.is))) in
    rw past refl
