use Rattle.std.proofs.Common.{◌≡◌, ◌∙◌, ◌∷◌, ◌++◌, [], sym, ap}
use Rattle.std.specs.Vec.Iter.{into_iter_items}
use Rattle.std.proofs.lemmas.List.{append_assoc}
use Rattle.vk_planned.proofs.LinkLemmas.{links_more}
use Rattle.vk_planned.proofs.links.link_all.Goals as goal

pub loop-fact-preserved : goal.loop-fact-preserved
loop-fact-preserved c =
    let step : into_iter_items c.loop-fact.fact-iterator ≡ c.in-Some.fact ∷ into_iter_items c.next.new.self = c.in-Some.ensures.steps.0 in
    record {
      split = append_assoc c.loop-fact.yielded (c.in-Some.fact ∷ []) (into_iter_items c.next.new.self) ∙ ap (λ l. c.loop-fact.yielded ++ l) (sym step) ∙ c.loop-fact.invariant.split;
      links = links_more c.loop-fact.yielded c.in-Some.fact c.loop-fact.invariant.links c.in_ok-link_need.ensures;
    }
