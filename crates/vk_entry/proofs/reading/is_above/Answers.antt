use Rattle.std.proofs.Common.{refl}
use Rattle.vk_entry.specs.ContentViews.{content_view}
use Rattle.vk_entry.proofs.OrderLemmas.{above_by, none_above}
use Rattle.vk_entry.proofs.reading.is_above.Goals as goal

pub returns-in-Some : goal.returns-in-Some
returns-in-Some c =
    above_by c.args.lines.now c.in-Some.last.now (content_view c.args.next.now) c.eq.result c.requires
    c.in-Some.ensures.value
    (rw (← c.cmp_text.ensures) c.eq.ensures)

pub returns-in-None : goal.returns-in-None
returns-in-None c =
    let all = none_above c.args.lines.now (content_view c.args.next.now) c.in-None.ensures.value in
    ((λ yes. all), (λ order. refl))
