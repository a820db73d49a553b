use Rattle.std.proofs.Common.{◌≡◌, ◌<◌, ◌^◌, refl, sym, ◌∙◌, true, arith}
use Rattle.vk_version.specs.Texts.{is_number}
use Rattle.vk_version.proofs.DigitLemmas.{number_found, number_past}
use Rattle.vk_version.proofs.asks.read_port.Goals as goal

pub returns-in-Some : goal.returns-in-Some
returns-in-Some c =
    let small : c.in-Some.port < 2 ^ 32 = (rw c.in-Some.is at c.read_u32.type_inv).1.1.1.1.0.1 in
    let found =
    number_found c.args.digits.now c.in-Some.port (2 ^ 32) (omega (arith, small)) small
    c.in-Some.ensures.found in
    let number : is_number c.args.digits.now ≡ true =
    rw c.as_bytes.ensures.value at (sym c.is_number.ensures ∙ c.if-not-is_number.false) in
    rw (number, found.0, found.1) refl

pub returns-in-None : goal.returns-in-None
returns-in-None c =
    let number : is_number c.args.digits.now ≡ true =
    rw c.as_bytes.ensures.value at (sym c.is_number.ensures ∙ c.if-not-is_number.false) in
    let past =
    number_past c.args.digits.now (2 ^ 32) (omega arith) number
    (λ n small e. (cc (c.read_u32.ensures.known n small e, c.in-None.is))) in
    rw (number, past) refl
