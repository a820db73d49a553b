use Rattle.vk_forms.proofs.PairForms.{not_cut, no_first, no_second, both_read}
use Rattle.vk_forms.proofs.pairs.read_pair.Goals as goal

pub returns-in_default : goal.returns-in_default
returns-in_default g c =
    not_cut (g.A.Form.prints c.args.first.now) (g.B.Form.prints c.args.second.now) (g.A.Form.is_right c.args.first.now) (g.B.Form.is_right c.args.second.now) c.args.mark c.args.text.now
    c.in_default.ensures

pub returns-in_default-2 : goal.returns-in_default-2
returns-in_default-2 g c =
    let none = rw c.in_default-2.is at c.in_ok-one.ensures in
    no_first (g.A.Form.prints c.args.first.now) (g.B.Form.prints c.args.second.now) (g.A.Form.is_right c.args.first.now) (g.B.Form.is_right c.args.second.now) c.args.mark c.args.text.now
    c.in-Some.front.now c.in-Some.rest.now c.in-Some.ensures.0 c.in-Some.ensures.1 none

pub returns-in-Some-3 : goal.returns-in-Some-3
returns-in-Some-3 g c =
    let one = rw c.in-Some-2.is at c.in_ok-one.ensures in
    let other = rw c.in-Some-3.is at c.in_ok-other.ensures in
    both_read (g.A.Form.prints c.args.first.now) (g.B.Form.prints c.args.second.now) (g.A.Form.is_right c.args.first.now) (g.B.Form.is_right c.args.second.now) c.args.mark c.args.text.now
    c.in-Some.front.now c.in-Some.rest.now (g.A.Form.plain c.in-Some-2.one) (g.B.Form.plain c.in-Some-3.other) c.in-Some.ensures.0 c.in-Some.ensures.1 one other

pub returns-in-None : goal.returns-in-None
returns-in-None g c =
    let none = rw c.in-None.is at c.in_ok-other.ensures in
    no_second (g.A.Form.prints c.args.first.now) (g.B.Form.prints c.args.second.now) (g.A.Form.is_right c.args.first.now) (g.B.Form.is_right c.args.second.now) c.args.mark c.args.text.now
    c.in-Some.front.now c.in-Some.rest.now c.in-Some.ensures.0 c.in-Some.ensures.1 none
