use Rattle.std.proofs.Common.{◌≡◌, false, ◌++◌, ◌∷◌, [], ap, sym, ◌∙◌, subst, map, rules}
use Rattle.std.specs.List.{Contains}
use Rattle.std.specs.Map.{keys_of}
use Rattle.std.proofs.lemmas.List.{append-nil, append_assoc}
use Rattle.vk_spec.specs.Catalogues.{CanAskVersion, OnPages}
use Rattle.vk_spec.proofs.AskLemmas.{asked_nothing, asked_then, pages_after, pages_before}
use Rattle.vk_spec.proofs.ListLemmas.{contains_nothing}
use Rattle.vk_spec.proofs.OptionLemmas.{of_each}
use Rattle.vk_model.specs.FaultViews.{fault_view}
use Rattle.vk_choices.specs.declared.asks.Asked.{Asked}
use Rattle.vk_choices.specs.ChoiceViews.{choice_view}
use Rattle.vk_choices.specs.Rows.{Rows, AreInOrder}
use Rattle.vk_choices.specs.Asks.{asked_view}
use Rattle.vk_choices.specs.Floors.{AreFloors}
use Rattle.vk_choices.specs.Settling.{AreSettledFor, IsAddedFor}
use Rattle.vk_choices.proofs.RowLemmas.{others_ascend}
use Rattle.vk_choices.proofs.SettleLemmas.{AreBehind, behind_more, can_ask_next, is_new, more_settled_on, nothing_settled}
use Rattle.vk_choices.proofs.settling.Settled.settle_rows.Goals as goal

pub loop-port-init : goal.loop-port-init
loop-port-init g c =
    let all : c.into_iter-port-iterator.result ≡ c.args.rows.now.entries = search rules in
    record {
      asked = asked_nothing (g.C.Catalogue.state c.args.cat.now);
      done = [];
      split = all;
      ordered = subst (λ (l : Rows Asked). AreInOrder l) (sym all) c.requires.ordered;
      settled = of_each (g.C.Catalogue.state c.args.cat.now).pages (λ pages. nothing_settled pages c.args.self.now (ap (map choice_view) c.requires.none) (ap (map fault_view) c.requires.untold));
      behind = λ p q h k. absurd (contains_nothing p (subst (λ l. Contains (keys_of l) p) c.requires.none h));
    }

pub settle_asked-requires-clause-new : goal.settle_asked-requires-clause-new
settle_asked-requires-clause-new g c =
    is_new (c.in-Some.port.now, c.in-Some.asks.now) c.next.new.self c.loop-port.self (subst (λ l. AreBehind l c.loop-port.self) c.in-Some.ensures.steps c.loop-port.invariant.behind)

pub settle_asked-requires-clause-given : goal.settle_asked-requires-clause-given
settle_asked-requires-clause-given g c =
    pages_after (λ pages. CanAskVersion (pages c.in-Some.port.now)) c.loop-port.invariant.asked
    (can_ask_next (g.C.Catalogue.state c.args.cat.now).pages c.args.rows.now.entries c.loop-port.invariant.done c.next.new.self (c.in-Some.port.now, c.in-Some.asks.now)
    (ap (λ (l : Rows Asked). c.loop-port.invariant.done ++ l) (sym c.in-Some.ensures.steps) ∙ c.loop-port.invariant.split) c.requires.given)

pub loop-port-preserved : goal.loop-port-preserved
loop-port-preserved g c =
    let added : IsAddedFor (g.C.Catalogue.state c.loop-port.cat).pages c.in-Some.port.now (map asked_view c.in-Some.asks.now) c.loop-port.self c.settle_asked.new.self =
    subst (λ l. IsAddedFor (g.C.Catalogue.state c.loop-port.cat).pages c.in-Some.port.now (map asked_view l) c.loop-port.self c.settle_asked.new.self) c.as_slice.ensures c.in_ok-settle_asked.ensures.added in
    record {
      asked = asked_then {failed = false} c.loop-port.invariant.asked c.in_ok-settle_asked.ensures.asked;
      done = c.loop-port.invariant.done ++ (c.in-Some.port.now, c.in-Some.asks.now) ∷ [];
      split = append_assoc c.loop-port.invariant.done ((c.in-Some.port.now, c.in-Some.asks.now) ∷ []) c.next.new.self ∙ ap (λ (l : Rows Asked). c.loop-port.invariant.done ++ l) (sym c.in-Some.ensures.steps) ∙ c.loop-port.invariant.split;
      ordered = others_ascend (c.in-Some.port.now, c.in-Some.asks.now) c.next.new.self (subst (λ (l : Rows Asked). AreInOrder l) c.in-Some.ensures.steps c.loop-port.invariant.ordered);
      settled = more_settled_on (g.C.Catalogue.state c.args.cat.now).pages c.loop-port.invariant.done c.in-Some.port.now c.in-Some.asks.now added.floors c.loop-port.self c.settle_asked.new.self c.loop-port.invariant.settled
          (pages_before (λ pages. AreFloors pages c.in-Some.port.now (map asked_view c.in-Some.asks.now) added.floors) c.loop-port.invariant.asked added.are) added.added;
      behind = behind_more (c.in-Some.port.now, c.in-Some.asks.now) c.next.new.self added.floors c.loop-port.self c.settle_asked.new.self (subst (λ (l : Rows Asked). AreInOrder l) c.in-Some.ensures.steps c.loop-port.invariant.ordered)
          (subst (λ l. AreBehind l c.loop-port.self) c.in-Some.ensures.steps c.loop-port.invariant.behind) added.added;
    }

pub returns-clause-settled : goal.returns-clause-settled
returns-clause-settled g c =
    let all : c.loop-port.invariant.done ≡ c.args.rows.now.entries = sym (append-nil c.loop-port.invariant.done) ∙ ap (λ (l : Rows Asked). c.loop-port.invariant.done ++ l) (sym c.in-None.ensures.steps.0) ∙ c.loop-port.invariant.split in
    subst (λ (l : Rows Asked). OnPages (λ pages. AreSettledFor pages l c.loop-port.self) (g.C.Catalogue.state c.args.cat.now)) all c.loop-port.invariant.settled
