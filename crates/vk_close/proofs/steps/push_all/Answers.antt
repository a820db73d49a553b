use Rattle.std.proofs.Common.{◌≡◌, ◌∙◌, ◌∷◌, ◌++◌, [], sym, ap}
use Rattle.std.specs.Vec.Iter.{into_iter_items}
use Rattle.std.proofs.lemmas.List.{append_assoc}
use Rattle.vk_spec.proofs.AskLemmas.{asked_then, pages_before}
use Rattle.vk_model.specs.FactViews.{fact_view}
use Rattle.vk_close.specs.Known.{AreKnown}
use Rattle.vk_close.specs.Steps.{asked_on}
use Rattle.vk_worklist.specs.Entries.{reasons_in}
use Rattle.vk_close.proofs.StepLemmas.{asked_more}
use Rattle.vk_close.proofs.steps.push_all.Goals as goal

pub loop-fact-preserved : goal.loop-fact-preserved
loop-fact-preserved g c =
    let step : into_iter_items c.loop-fact.fact-iterator ≡ c.in-Some.fact ∷ into_iter_items c.next.new.self = c.in-Some.ensures.steps.0 in
    record {
      split = append_assoc c.loop-fact.yielded (c.in-Some.fact ∷ []) (into_iter_items c.next.new.self) ∙ ap (λ l. c.loop-fact.yielded ++ l) (sym step) ∙ c.loop-fact.invariant.split;
      asked = asked_then c.loop-fact.invariant.asked c.in_ok-push_asked.ensures.asked;
      known = pages_before (λ pages. AreKnown c.args.overrides.now pages c.push_asked.new.ports.entries) c.loop-fact.invariant.asked c.in_ok-push_asked.ensures.known;
      seats = λ place port at. c.in_ok-push_asked.ensures.seats place port (c.loop-fact.invariant.seats place port at);
      brought = asked_more (g.C.Catalogue.state c.args.cat.now).pages c.args.overrides.now c.args.line (reasons_in c.args.brought.now.items) (reasons_in c.loop-fact.brought.items) (reasons_in c.push_asked.new.brought.items)
          c.loop-fact.yielded c.in-Some.fact c.loop-fact.invariant.brought
          (pages_before (λ pages. reasons_in c.push_asked.new.brought.items ≡ reasons_in c.loop-fact.brought.items ++ asked_on c.args.overrides.now pages c.args.line (fact_view c.in-Some.fact)) c.loop-fact.invariant.asked c.in_ok-push_asked.ensures.brought);
    }
