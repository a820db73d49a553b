-- What is published or set aside for an item.
use Rattle.std.proofs.Common.{◌≡◌, List, refl, sym, subst}
use Rattle.std.specs.Prelude.{Option, Some, None, IfSome, Result}
use Rattle.vk_base.specs.declared.stops.Outage.{Outage}
use Rattle.vk_spec.specs.States.{Told, State}
use Rattle.vk_spec.specs.Standing.{disk_of, OnFiles}
use Rattle.vk_protocol.specs.Protocols.{Protocol}
use Rattle.vk_protocol.specs.Runs.{CanAsk, NextIs}
use Rattle.vk_publish.specs.declared.asides.AsideNow.{AsideNow}
use Rattle.vk_publish.specs.declared.asides.AsideNow.TheVariants as aside
use Rattle.vk_publish.specs.declared.jobs.Target.{Target}
use Rattle.vk_publish.specs.declared.jobs.PublishJob.{PublishJob}
use Rattle.vk_publish.specs.declared.publishing.PublishNow.{PublishNow}
use Rattle.vk_publish.specs.declared.publishing.PublishNow.TheVariants as publish
use Rattle.vk_publish.specs.AsideMachine.{aside_left}
use Rattle.vk_publish.specs.PublishMachine.{publish_left}
use Rattle.vk_entry.specs.Packages.{File}
use Rattle.vk_make.specs.Makes.{Supplies, Work, Item}
use Rattle.vk_shared.specs.ItemMachine.{aside_now, publish_now, item_left, job_item, job_work, next_left}
use Rattle.vk_shared.specs.declared.items.ItemJob.{ItemJob}
use Rattle.vk_shared.specs.declared.items.ItemNow.{ItemNow}
use Rattle.vk_shared.specs.declared.items.ItemNext.{ItemNext}

-- the target is the item's
pub record IsTargetOf (w : Work) (i : Item) (t : Target) : Type 0 where
  pub cache : t.cache.now ≡ w.cache
  pub agent : t.agent.now ≡ w.agent
  pub digest : t.digest.now.bytes ≡ i.task.digest

pub aside_same : (w : Work) (i : Item) (t : Target) (at : AsideNow) → IsTargetOf w i t → aside_left t at ≡ aside_now w i at
unfolding aside_left
aside_same w i t aside.Lists is = rw (is.cache, is.agent, is.digest) refl
aside_same w i t (aside.Moves n) is = rw (is.cache, is.agent, is.digest) refl
aside_same w i t (aside.Ended m) is = refl
aside_same w i t (aside.Over over) is = refl

pub publish_same : (w : Work) (i : Item) (job : PublishJob) (built : List File) (at : PublishNow) → IsTargetOf w i job.target → job.text.now ≡ i.task.text → job.built.now ≡ built → publish_left job at ≡ publish_now w i built at
unfolding publish_left
publish_same w i job built publish.Lists is text same = rw (is.cache, is.agent, is.digest, text, same) refl
publish_same w i job built (publish.Files n k) is text same = rw (is.cache, is.agent, is.digest, text, same) refl
publish_same w i job built (publish.Text n) is text same = rw (is.cache, is.agent, is.digest, text) refl
publish_same w i job built (publish.Moves n) is text same = rw (is.cache, is.agent, is.digest) refl
publish_same w i job built (publish.Ended p) is text same = refl
publish_same w i job built (publish.Over over) is text same = refl

asked_so : {S A : Type 0} (p : S → Protocol A) (q : Protocol A) (o : Option Told) → ((s : S) → q ≡ p s) → IfSome o (λ t. (s : S) × CanAsk (p s) (disk_of t.files)) → IfSome o (λ t. CanAsk q (disk_of t.files))
asked_so p q None same h = tt
asked_so p q (Some t) same h = subst (λ r. CanAsk r (disk_of t.files)) (sym (same h.0)) h.1

-- the call may be made
pub aside_may : (w : Supplies → Work) (i : Item) (t : Target) (at : AsideNow) (a : State) → ((s : Supplies) → IsTargetOf (w s) i t) → OnFiles (λ d. (s : Supplies) × CanAsk (aside_now (w s) i at) d) a → OnFiles (CanAsk (aside_left t at)) a
aside_may w i t at a is h = asked_so (λ s. aside_now (w s) i at) (aside_left t at) a.told (λ s. aside_same (w s) i t at (is s)) h

pub publish_may : (w : Supplies → Work) (i : Item) (job : PublishJob) (built : List File) (at : PublishNow) (a : State) → ((s : Supplies) → IsTargetOf (w s) i job.target) → job.text.now ≡ i.task.text → job.built.now ≡ built → OnFiles (λ d. (s : Supplies) × CanAsk (publish_now (w s) i built at) d) a → OnFiles (CanAsk (publish_left job at)) a
publish_may w i job built at a is text same h = asked_so (λ s. publish_now (w s) i built at) (publish_left job at) a.told (λ s. publish_same (w s) i job built at (is s) text same) h

does_so : {A X : Type 0} (p q : X → Protocol A) (x : X) (r : Result X Outage) (a b : State) → ((y : X) → p y ≡ q y) → NextIs (p x) p r a b → NextIs (q x) q r a b
does_so p q x r a b same h = subst (λ f. NextIs (f x) f r a b) (λ i y. same y i) h

-- the call is the item's
pub aside_does : (w : Work) (i : Item) (t : Target) (at : AsideNow) (r : Result AsideNow Outage) (a b : State) → IsTargetOf w i t → NextIs (aside_left t at) (aside_left t) r a b → NextIs (aside_now w i at) (aside_now w i) r a b
aside_does w i t at r a b is h = does_so (aside_left t) (aside_now w i) at r a b (λ x. aside_same w i t x is) h

pub publish_does : (w : Work) (i : Item) (job : PublishJob) (built : List File) (at : PublishNow) (r : Result PublishNow Outage) (a b : State) → IsTargetOf w i job.target → job.text.now ≡ i.task.text → job.built.now ≡ built → NextIs (publish_left job at) (publish_left job) r a b → NextIs (publish_now w i built at) (publish_now w i built) r a b
publish_does w i job built at r a b is text same h = does_so (publish_left job) (publish_now w i built) at r a b (λ x. publish_same w i job built x is text same) h

may_told : (job : ItemJob) (w : Supplies → Work) (i : Item) (at : ItemNow) (o : Option Told) → ((s : Supplies) → job_work s job ≡ w s) → job_item job ≡ i → IfSome o (λ t. (s : Supplies) × CanAsk (item_left (w s) i at) (disk_of t.files)) → IfSome o (λ t. (s : Supplies) × CanAsk (item_left (job_work s job) (job_item job) at) (disk_of t.files))
may_told job w i at None work item h = tt
may_told job w i at (Some t) work item h = (h.0, subst (λ v. CanAsk (item_left v (job_item job) at) (disk_of t.files)) (sym (work h.0)) (subst (λ j. CanAsk (item_left (w h.0) j at) (disk_of t.files)) (sym item) h.1))

pub item_may : (job : ItemJob) (w : Supplies → Work) (i : Item) (at : ItemNow) (a : State) → ((s : Supplies) → job_work s job ≡ w s) → job_item job ≡ i → OnFiles (λ d. (s : Supplies) × CanAsk (item_left (w s) i at) d) a → OnFiles (λ d. (s : Supplies) × CanAsk (item_left (job_work s job) (job_item job) at) d) a
item_may job w i at a work item h = may_told job w i at a.told work item h

pub item_does : (w : Work) (i : Item) (job : ItemJob) (s : Supplies) (at : ItemNow) (r : Result ItemNext Outage) (a b : State) → job_work s job ≡ w → job_item job ≡ i → NextIs (item_left (job_work s job) (job_item job) at) (next_left (job_work s job) (job_item job)) r a b → NextIs (item_left w i at) (next_left w i) r a b
item_does w i job s at r a b work item h = subst (λ j. NextIs (item_left w j at) (next_left w j) r a b) item (subst (λ v. NextIs (item_left v (job_item job) at) (next_left v (job_item job)) r a b) work h)
