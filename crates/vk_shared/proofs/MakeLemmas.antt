-- A call of an item is a call of the whole.
use Rattle.std.proofs.Common.{◌≡◌, List, refl, ap, sym, subst}
use Rattle.std.specs.Prelude.{Option, Some, None, IfSome, Result, Ok, Err}
use Rattle.vk_base.specs.declared.memory.Memory as memory
use Rattle.vk_base.specs.declared.stops.Outage.{Outage}
use Rattle.vk_base.specs.declared.stops.Outage.TheVariants as outage
use Rattle.vk_base.specs.Stops.{stop_of}
use Rattle.vk_spec.specs.States.{Told, State}
use Rattle.vk_spec.specs.Standing.{disk_of, OnFiles}
use Rattle.vk_protocol.specs.Protocols.{Protocol, ends, on_ok, each, ◌>>=◌}
use Rattle.vk_protocol.specs.Runs.{CanAsk, Stepped}
use Rattle.vk_protocol.specs.Turns.{Left, goes, stopped}
use Rattle.vk_protocol.proofs.RunLemmas.{stays, stepped_within}
use Rattle.vk_make.specs.Makes.{Supplies, Work, OneMade, AllMade, Have, Planned, next_item, add_item, make_one, items_in}
use Rattle.vk_shared.specs.Tasks.{task_view}
use Rattle.vk_shared.specs.ItemMachine.{item_left}
use Rattle.vk_shared.specs.MakeMachine.{CanGo, GoesOn, GoesTo, MakesOn, ended_left, make_left, now_left, shop_work, then_later}
use Rattle.vk_shared.specs.declared.items.ItemNow.{ItemNow}
use Rattle.vk_shared.specs.declared.tasks.Task.{Task}
use Rattle.vk_shared.specs.declared.makings.MakeNow.{MakeNow}
use Rattle.vk_shared.specs.declared.makings.MakeNow.TheVariants as now
use Rattle.vk_shared.specs.declared.makings.Making.{Making}
use Rattle.vk_shared.proofs.PartSteps.{can_part, lacked_after}

-- what may be asked of the whole may be asked of the item
pub may_item : (w : Supplies → Work) (later : List Planned) (have : Have) (p : Supplies → Protocol OneMade) (a : State) → OnFiles (λ d. (s : Supplies) × CanAsk (then_later (w s) later have (p s)) d) a → OnFiles (λ d. (s : Supplies) × CanAsk (p s) d) a
may_item w later have p a h =
    can_part p (λ s. on_ok (add_item have)) a
    (can_part (λ s. p s >>= on_ok (add_item have)) (λ s. on_ok (each (make_one (w s)) later)) a
    (can_part (λ s. (p s >>= on_ok (add_item have)) >>= on_ok (each (make_one (w s)) later)) (λ s r. ends (items_in r)) a h))

-- a call of the item
pub item_within : (w : Work) (later : List Planned) (have : Have) (p q : Protocol OneMade) (r : Result (Unit {0}) Outage) (a b : State) → Stepped p r q a b → Stepped (then_later w later have p) r (then_later w later have q) a b
item_within w later have p q r a b h =
    stepped_within ((p >>= on_ok (add_item have)) >>= on_ok (each (make_one w) later)) ((q >>= on_ok (add_item have)) >>= on_ok (each (make_one w) later)) (λ r. ends (items_in r)) r a b
    (stepped_within (p >>= on_ok (add_item have)) (q >>= on_ok (add_item have)) (on_ok (each (make_one w) later)) r a b
    (stepped_within p q (on_ok (add_item have)) r a b h))

pub makes_next : (w : Work) (later : List Planned) (have : Have) (p q : Protocol OneMade) (means : MakeNow → Left AllMade) (at : MakeNow) (a b : State) → Stepped p (Ok tt) q a b → means at ≡ goes (then_later w later have q) → MakesOn (then_later w later have p) means (Ok at) a b
makes_next w later have p q means at a b step is = (then_later w later have q, is, item_within w later have p q (Ok tt) a b step)

pub makes_stop : (w : Work) (later : List Planned) (have : Have) (p : Protocol OneMade) (means : MakeNow → Left AllMade) (e : Outage) (a b : State) → Stepped p (Err e) p a b → MakesOn (then_later w later have p) means (Err e) a b
makes_stop w later have p means e a b step = item_within w later have p p (Err e) a b step

pub makes_lack : (w : Work) (later : List Planned) (have : Have) (p q : Protocol OneMade) (means : MakeNow → Left AllMade) (m : memory.Memory) (a b : State) → Stepped p (Ok tt) q a b → MakesOn (then_later w later have p) means (Err (outage.Memory m)) a b
makes_lack w later have p q means m a b step = item_within w later have p p (Err (outage.Memory m)) a b (lacked_after p q p tt m a b step)

-- ---- the whole

pub goes_next : (left : Left AllMade) (means : MakeNow → Left AllMade) (at : MakeNow) (u : Unit {0}) (a b : State) → GoesTo left (Ok at) means a b → GoesOn left (Ok u) (means at) a b
goes_next (goes p) means at u a b h = subst (λ l. GoesOn (goes p) (Ok u) l a b) (sym h.1) h.2
goes_next stopped means at u a b h = absurd h

pub stop_left : (e : Outage) → ended_left (stop_of e) ≡ stopped
stop_left outage.Failed = refl
stop_left (outage.Memory m) = refl

pub goes_stop : (left next : Left AllMade) (means : MakeNow → Left AllMade) (e : Outage) (a b : State) → GoesTo left (Err e) means a b → next ≡ stopped → GoesOn left (Err e) next a b
goes_stop (goes p) next means e a b h is = (h, is)
goes_stop stopped next means e a b h is = absurd h

-- ---- by what it does next

pub left_makes : (s : Supplies) (m : Making) (t : Task) (at : ItemNow) → m.at ≡ now.Makes t at → make_left s m ≡ goes (then_later (shop_work s m.shop) m.later m.have (item_left (shop_work s m.shop) (next_item (task_view t) m.have) at))
unfolding make_left
left_makes s m t at is = ap (now_left (shop_work s m.shop) m.later m.have) is

may_told : (left : Supplies → Left AllMade) (p : Supplies → Protocol AllMade) (o : Option Told) → ((s : Supplies) → left s ≡ goes (p s)) → IfSome o (λ t. (s : Supplies) × CanGo (left s) (disk_of t.files)) → IfSome o (λ t. (s : Supplies) × CanAsk (p s) (disk_of t.files))
may_told left p None is h = tt
may_told left p (Some t) is h = (h.0, subst (λ l. CanGo l (disk_of t.files)) (is h.0) h.1)

-- the call of the item that is made may be made
pub may_make : (m : Making) (t : Task) (at : ItemNow) (a : State) → m.at ≡ now.Makes t at → OnFiles (λ d. (s : Supplies) × CanGo (make_left s m) d) a → OnFiles (λ d. (s : Supplies) × CanAsk (item_left (shop_work s m.shop) (next_item (task_view t) m.have) at) d) a
may_make m t at a is h =
    may_item (λ s. shop_work s m.shop) m.later m.have (λ s. item_left (shop_work s m.shop) (next_item (task_view t) m.have) at) a
    (may_told (λ s. make_left s m) (λ s. then_later (shop_work s m.shop) m.later m.have (item_left (shop_work s m.shop) (next_item (task_view t) m.have) at)) a.told (λ s. left_makes s m t at is) h)

pub goes_lack : (left : Left AllMade) (p : Protocol AllMade) (means : MakeNow → Left AllMade) (m : memory.Memory) (a : State) → left ≡ goes p → GoesTo left (Err (outage.Memory m)) means a a
goes_lack left p means m a is = subst (λ l. GoesTo l (Err (outage.Memory m)) means a a) (sym is) (stays p p (outage.Memory m) a a tt refl)

pub goes_made : (left : Left AllMade) (p : Protocol AllMade) (means : MakeNow → Left AllMade) (r : Result MakeNow Outage) (a b : State) → left ≡ goes p → MakesOn p means r a b → GoesTo left r means a b
goes_made left p means r a b is h = subst (λ l. GoesTo l r means a b) (sym is) h
