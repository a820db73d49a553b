-- A whole run of a setting aside.
use Rattle.std.proofs.Common.{◌≡◌, ap, sym, ◌∙◌, subst}
use Rattle.std.specs.Prelude.{Result, Ok, Err}
use Rattle.vk_spec.specs.States.{State}
use Rattle.vk_base.specs.declared.limits.Limit.{Limit}
use Rattle.vk_base.specs.declared.stops.Outage.{Outage}
use Rattle.vk_protocol.specs.Protocols.{Protocol, ends}
use Rattle.vk_protocol.specs.Runs.{CanRunOn, CameTo, Ran}
use Rattle.vk_protocol.proofs.RunLemmas.{ran_to}
use Rattle.vk_publish.specs.declared.answers.Moved.{Moved}
use Rattle.vk_publish.specs.declared.jobs.Target.{Target}
use Rattle.vk_publish.specs.declared.asides.AsideNow.TheVariants as next
use Rattle.vk_publish.specs.AsideMachine.{aside_left, aside_whole}

-- what it means at its start
abbrev pub start : Target → Protocol (Result Moved Limit)
start target = aside_left target next.Lists

pub can_begin : (target : Target) (s : State) → CanRunOn (aside_whole target) s → CanRunOn (start target) s
unfolding aside_left
can_begin target s can = can

pub stop_begun : (target : Target) (q : Protocol (Result Moved Limit)) (r : Result (Result Moved Limit) Outage) (e o : Outage) (a b : State) → r ≡ Err e → e ≡ o → CameTo (start target) (Err o) q a b → Ran (aside_whole target) r a b
unfolding aside_left
stop_begun target q r e o a b is same came = subst (λ x. Ran (aside_whole target) x a b) (sym (is ∙ ap (λ y. Err y) same)) came

pub ran_begun : (target : Target) (q : Protocol (Result Moved Limit)) (x : Result Moved Limit) (u : Unit {0}) (a b : State) → q ≡ ends x → CameTo (start target) (Ok u) q a b → Ran (aside_whole target) (Ok x) a b
unfolding aside_left
ran_begun target q x u a b end came = ran_to (start target) q x u a b end came
