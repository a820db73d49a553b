-- What is kept may be run, and what a run leaves of it, wherever it stops.
use Rattle.std.proofs.Common.{◌≡◌, inl, inr, false, refl, sym, ◌∙◌, subst}
use Rattle.std.specs.Prelude.{Option, Some, None, IfSome, IfOk, Result, Ok, Err}
use Rattle.vk_spec.specs.Files.{Files, IsTree}
use Rattle.vk_spec.specs.States.{Told, State}
use Rattle.vk_spec.specs.Calls.{Call, Output, Answer, refuses, fails, lacks, Content, ToldBecomes, noted_by, IsSmall, is_failed, CanMake, LeavesFailed}
use Rattle.vk_spec.specs.Standing.{disk_of}
use Rattle.vk_tree.specs.Trees.{IsTreeDisk}
use Rattle.vk_base.specs.declared.stops.Outage.{Outage}
use Rattle.vk_base.specs.declared.stops.Outage.TheVariants.{Failed, Memory}
use Rattle.vk_protocol.specs.Keeps.{Alone, AreTerms, Keeps}
use Rattle.vk_protocol.specs.Protocols.{Reply, answer_of, Protocol, ends, asks}
use Rattle.vk_protocol.specs.Runs.{CanRun, CanRunOn, Does, IsEnd, Ran, Stops, StopsAt}

-- nobody else
pub alone_terms : (I : Files → Type 0) → AreTerms (Alone I) (λ f g. I g) I
alone_terms I = record {
  nothing = λ f holds. (holds, refl);
  more = λ f g h one two. (one.0, two.1 ∙ one.1);
  others = λ f g later. subst I (sym later.1) later.0;
  own = λ f g holds eff tree. eff;
}

-- it holds of the files where they are told
abbrev pub On : (Files → Type 0) → Option Told → Type 0
On P o = IfSome o (λ t. P t.files)

on_then : (P Q : Files → Type 0) (o : Option Told) → ((f : Files) → P f → Q f) → On P o → On Q o
on_then P Q None more h = tt
on_then P Q (Some t) more h = more t.files h

-- what the answer of a call leaves
made_on : (P Q : Files → Type 0) (call : Call) (answer : Answer (Output call)) (x y : Option Told) → ((f g : Files) → Content call answer f g → IsTree g → P f → Q g)
    → ToldBecomes (noted_by call answer) (Content call answer) x y → IfSome y (λ t. IsTree t.files) → On P x → On Q y
made_on P Q call answer None y more made tree h = subst (λ (o : Option Told). On Q o) (sym made) tt
made_on P Q call answer (Some t) None more made tree h = absurd made
made_on P Q call answer (Some t) (Some u) more made tree h = more t.files u.files made.1 tree h

module _ {A : Type 0} (M E : Files → Files → Type 0) (I : Files → Type 0) (P : A → Files → Type 0) (terms : AreTerms M E I) where
  abbrev Kept : Protocol A → Files → Type 0
  Kept p f = I f × Keeps M E P p f

  abbrev Left : Result A Outage → Files → Type 0
  Left r g = I g × IfOk r (λ x. P x g)

  replied : (call : Call) (k : Reply call → Protocol A) (reply : Reply call) (f g : Files) → Does call reply f g → IsTree g → Kept (asks call k) f → Kept (k reply) g
  replied call k reply f g does tree h = (let step = (h.1 f (terms.nothing f h.0)).2 reply g does tree in (terms.own f g h.0 step.0 tree, step.1))

  does_of : (call : Call) (reply : Reply call) (f g : Files) → IsSmall call (answer_of call reply) → Content call (answer_of call reply) f g → Does call reply f g
  does_of call reply f g small c = record { says = c.0; small = small; leaves = c.1 }

  unanswered : (call : Call) (k : Reply call → Protocol A) (answer : Answer (Output call)) (f g : Files) → is_failed answer ≡ false → IsSmall call answer → Content call answer f g → IsTree g → Kept (asks call k) f → I g
  unanswered call k (Ok x) f g calm small c tree h = (replied call k (Ok x) f g (does_of call (Ok x) f g small c) tree h).0
  unanswered call k (Err (refuses r)) f g calm small c tree h = (replied call k (Err r) f g (does_of call (Err r) f g small c) tree h).0
  unanswered call k (Err fails) f g calm small c tree h = (cc)
  unanswered call k (Err lacks) f g calm small c tree h = subst I (sym c.1) h.0

  stopped_on : (call : Call) (k : Reply call → Protocol A) (e : Outage) (a b : State) → Stops call e a b → On (Kept (asks call k)) a.told → On (Left (Err e)) b.told
  stopped_on call k Failed a b made h = made_on (Kept (asks call k)) (Left (Err Failed)) call (Err fails) a.told b.told (λ f g c tree kept. (terms.own f g kept.0 ((kept.1 f (terms.nothing f kept.0)).1 g c.1 tree) tree, tt)) made.content made.tree_after h
  stopped_on call k (Memory m) a b (inl same) h = subst (λ s. On (Left (Err (Memory m))) (s.told)) (sym same) (on_then (Kept (asks call k)) (Left (Err (Memory m))) a.told (λ f kept. (kept.0, tt)) h)
  stopped_on call k (Memory m) a b (inr made) h = made_on (Kept (asks call k)) (Left (Err (Memory m))) call made.0 a.told b.told (λ f g c tree kept. (unanswered call k made.0 f g made.2 made.1.small c tree kept, tt)) made.1.content made.1.tree_after h

  stopped_at : (call : Call) (k : Reply call → Protocol A) (r : Result A Outage) (a b : State) → StopsAt call r a b → On (Kept (asks call k)) a.told → On (Left r) b.told
  stopped_at call k (Ok x) a b stop h = absurd stop
  stopped_at call k (Err e) a b stop h = stopped_on call k e a b stop h

  ended_on : (x : A) (r : Result A Outage) (o : Option Told) → IsEnd x r → On (Kept (ends x)) o → On (Left r) o
  ended_on x (Ok y) o is h = on_then (Kept (ends x)) (Left (Ok y)) o (λ f kept. (kept.0, subst (λ z. P z f) (sym is) (kept.1 f (terms.nothing f kept.0)))) h
  ended_on x (Err e) o is h = on_then (Kept (ends x)) (Left (Err e)) o (λ f kept. (kept.0, tt)) h

  -- what always holds still holds, and so does what its end says
  pub keeps_ran : (p : Protocol A) (r : Result A Outage) (a b : State) → On (Kept p) a.told → Ran p r a b → On (Left r) b.told
  keeps_ran (ends x) r a b h ran = subst (λ s. On (Left r) (s.told)) (sym ran.1) (ended_on x r a.told ran.0 h)
  keeps_ran (asks call k) r a b h (inl stop) = stopped_at call k r a b stop h
  keeps_ran (asks call k) r a b h (inr (reply, mid, made, more)) =
      keeps_ran (k reply) r mid b (made_on (Kept (asks call k)) (Kept (k reply)) call (answer_of call reply) a.told mid.told (λ f g c tree kept. replied call k reply f g (does_of call reply f g made.small c) tree kept) made.content made.tree_after h) more

  -- each call that is asked may be made
  pub keeps_can : (p : Protocol A) (f : Files) → Kept p f → CanRun p f
  keeps_can (ends x) f h = tt
  keeps_can (asks call k) f h = ((h.1 f (terms.nothing f h.0)).0, λ reply g does tree. keeps_can (k reply) g (replied call k reply f g does tree h))

  pub keeps_can_on : (p : Protocol A) (s : State) → On (Kept p) s.told → CanRunOn p s
  keeps_can_on p s h = on_then (Kept p) (CanRun p) s.told (λ f kept. keeps_can p f kept) h

-- ---- where nobody else changes the files

module _ {A : Type 0} (I : Files → Type 0) (P : A → Files → Type 0) where
  pub alone_ends : (x : A) (f : Files) → P x f → Keeps (Alone I) (λ f g. I g) P (ends x) f
  alone_ends x f end = λ g later. subst (P x) (sym later.1) end

  pub alone_asks : (call : Call) (k : Reply call → Protocol A) (f : Files) → CanMake call (disk_of f) → ((h : Files) → LeavesFailed call f h → I h)
      → ((reply : Reply call) (h : Files) → Does call reply f h → I h × Keeps (Alone I) (λ f g. I g) P (k reply) h) → Keeps (Alone I) (λ f g. I g) P (asks call k) f
  alone_asks call k f can failed answered = λ g later.
      subst (λ f. CanMake call (disk_of f) × ((h : Files) → LeavesFailed call f h → IsTreeDisk (disk_of h) → I h) × ((reply : Reply call) (h : Files) → Does call reply f h → IsTreeDisk (disk_of h) → I h × Keeps (Alone I) (λ f g. I g) P (k reply) h)) (sym later.1)
      (can, (λ h left tree. failed h left), λ reply h does tree. answered reply h does)
