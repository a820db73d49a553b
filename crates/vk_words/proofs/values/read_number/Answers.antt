use Rattle.std.proofs.Common.{◌<◌, ◌^◌, ◌∙◌}
use Rattle.vk_words.proofs.NumberLemmas.{number_is, no_number}
use Rattle.vk_words.proofs.values.read_number.Goals as goal

pub returns-in-Some : goal.returns-in-Some
returns-in-Some c =
    let small : c.in-Some.number < 2 ^ 32 = (rw c.in-Some.is at c.read_u32.type_inv).1.1.1.1.0.1 in
    c.within.ensures ∙ number_is c.args.most c.in-Some.number c.args.text.now small c.in-Some.ensures.found

pub returns-in-None : goal.returns-in-None
returns-in-None c =
    no_number c.args.most c.args.text.now c.ranges.most.fits
    (λ n small e. (cc (c.in-None.ensures.known n small e)))
