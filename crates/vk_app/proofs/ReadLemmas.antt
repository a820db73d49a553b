-- Reading a tree for a request: nothing, one after the other, and by way of a world.
use Rattle.std.proofs.Common.{◌≡◌, ◌++◌, ◌||◌, inl, Bool, true, false, List, [], refl, ap, sym, subst, ◌∙◌, arith}
use Rattle.std.specs.Prelude.{Option, Some, None, IfSome, IsSome, Ok, Err}
use Rattle.std.specs.List.{Contains}
use Rattle.std.proofs.lemmas.List.{append-nil}
use Rattle.vk_spec.specs.Lists.{NoRepeats}
use Rattle.vk_spec.specs.Counts.{Counted}
use Rattle.vk_spec.specs.Paths.{Path}
use Rattle.vk_spec.specs.Files.{Files}
use Rattle.vk_spec.specs.States.{Told, State, with_asked, Looks, OnlyRead}
use Rattle.vk_spec.specs.Catalogues.{CatalogueState, OnlyAsked}
use Rattle.vk_spec.specs.Calls.{stops}
use Rattle.vk_catalogue.specs.Views.{stop_view}
use Rattle.vk_base.specs.Stops.{is_outage}
use Rattle.vk_base.specs.declared.stops.Outage.{Outage}
use Rattle.vk_base.specs.declared.stops.Outage.TheVariants as outage
use Rattle.vk_spec.proofs.OptionLemmas.{of_each}
use Rattle.vk_spec.proofs.StateLemmas.{looks_nothing, looks_then, told_before}
use Rattle.vk_spec.proofs.AskLemmas.{asked_then}
use Rattle.vk_files.specs.Kept.{Held}
use Rattle.vk_files.specs.Views.{ArchiveView, held}
use Rattle.vk_opening.specs.Layouts.{Layout}
use Rattle.vk_world.specs.Worlds.{Learned, WorldView, world_state, state_of, origin_on, page_paths_in, ArePagePaths, IsReadSince}
use Rattle.vk_app.specs.declared.requests.Task.TheVariants as task
use Rattle.vk_app.specs.Asked.{Purpose, to_plan, to_tell, IsOfPorts}
use Rattle.vk_app.specs.Once.{AreListed, ReadsOnce, AreOwn, ReadsFor}
use Rattle.vk_app.specs.Requests.{Request}

-- ---- what is read for a plan, and besides

nothing_listed : (May : Files → Path → Type 0) (s : State) → AreListed May [] s
nothing_listed May s = of_each s.told (λ t path has. let low = has.1 in absurd (omega (arith, low)))

-- nothing was asked for
nothing_once : (May : Files → Path → Type 0) (earlier : List Path) (s : State) → NoRepeats earlier → ReadsOnce May earlier false s s
nothing_once May earlier s distinct = record {
  only = record { asked = []; looks = looks_nothing s };
  distinct = subst NoRepeats (sym (append-nil earlier)) distinct;
  listed = nothing_listed May s;
}

nothing_own : (request : Request) (May : Files → Path → Type 0) (s : State) → AreOwn request May [] s
nothing_own (Err fault) May s = refl
nothing_own (Ok (task.Plan project)) May s = refl
nothing_own (Ok (task.Abi project instance)) May s = nothing_listed May s
nothing_own (Ok (task.Check project report)) May s = inl refl
nothing_own (Ok (task.SelfLoad size project)) May s = refl

module _ (request : Request) (May : Purpose → Files → Path → Type 0) (earlier : List Path) {failed : Bool} {a b : State} where
  -- nothing was read besides
  pub for_plan : ReadsOnce (May to_plan) earlier failed a b → ReadsFor request May earlier failed a b
  for_plan r = record {
    only = r.only;
    first = r.only.asked;
    own = [];
    rest = [];
    parts = sym (append-nil r.only.asked);
    distinct = subst (λ l. NoRepeats (earlier ++ l)) (sym (append-nil r.only.asked)) r.distinct;
    listed = subst (λ l. AreListed (May to_plan) l a) (sym (append-nil r.only.asked)) r.listed;
    besides = nothing_own request (May to_tell) a;
  }

  -- nothing was read for a plan
  pub own_alone : (own : List Path) → NoRepeats earlier → Looks own failed a b → AreOwn request (May to_tell) own a → ReadsFor request May earlier failed a b
  own_alone own distinct looks besides = record {
    only = record { asked = own; looks = looks };
    first = [];
    own = own;
    rest = [];
    parts = sym (append-nil own);
    distinct = subst NoRepeats (sym (append-nil earlier)) distinct;
    listed = nothing_listed (May to_plan) a;
    besides = besides;
  }

  -- first for a plan, and then besides
  pub own_after : {c : State} → ReadsOnce (May to_plan) earlier false a c → (o : OnlyRead failed c b) → AreOwn request (May to_tell) o.asked a → ReadsFor request May earlier failed a b
  own_after r o besides = record {
    only = record { asked = r.only.asked ++ o.asked; looks = looks_then r.only.looks o.looks };
    first = r.only.asked;
    own = o.asked;
    rest = [];
    parts = ap (λ l. r.only.asked ++ l) (sym (append-nil o.asked));
    distinct = subst (λ l. NoRepeats (earlier ++ l)) (sym (append-nil r.only.asked)) r.distinct;
    listed = subst (λ l. AreListed (May to_plan) l a) (sym (append-nil r.only.asked)) r.listed;
    besides = besides;
  }

  -- first besides, and then for a plan
  pub own_before : {c : State} (own : List Path) → Looks own false a c → AreOwn request (May to_tell) own a → ReadsOnce (May to_plan) earlier failed c b → ReadsFor request May earlier failed a b
  own_before own looks besides r = record {
    only = record { asked = own ++ r.only.asked; looks = looks_then looks r.only.looks };
    first = [];
    own = own;
    rest = r.only.asked;
    parts = refl;
    distinct = r.distinct;
    listed = told_before (λ f. (path : Path) → Contains r.only.asked path → May to_plan f path) (record { asked = own; looks = looks }) r.listed;
    besides = besides;
  }

pub not_read : (request : Request) (May : Purpose → Files → Path → Type 0) (earlier : List Path) (s : State) → NoRepeats earlier → ReadsFor request May earlier false s s
not_read request May earlier s distinct = for_plan request May earlier (nothing_once (May to_plan) earlier s distinct)

-- ---- one of two calls failed at most

-- a call that gave no answer failed, or memory ran out
pub out_is : (e : Outage) → stops (stop_view e) ≡ is_outage e
out_is outage.Failed = refl
out_is (outage.Memory m) = refl

pub asked_each : {C : Type 0} (one two : Bool) {a b c : CatalogueState C} → (one ≡ true → two ≡ false) → OnlyAsked one a b → OnlyAsked two b c → OnlyAsked (one || two) a c
asked_each false two calm x y = asked_then x y
asked_each true two {a = a} {b = b} {c = c} calm x y =
    let quiet : c.faults ≡ b.faults = subst (λ f. Counted f b.faults c.faults) (calm refl) y.faults in
    record {
      pages = y.pages ∙ x.pages;
      origin = y.origin ∙ x.origin;
      calls = omega (arith, x.calls, y.calls);
      faults = subst (Counted true a.faults) (sym quiet) x.faults;
      sure = y.sure ∙ x.sure;
      safe = x.safe;
    }

-- ---- the tree below a world

-- what only asked a world only read its tree, no path that was read before, and only paths of pages
only_read_once : {failed : Bool} (layout : Layout) (read : List Path) (before after : Held) (l now : Learned)
    → (world_state before l).origin ≡ origin_on layout read before.tree
    → OnlyAsked failed (world_state before l) (world_state after now) → IsReadSince (world_state after now).origin after.tree
    → ReadsOnce (IsOfPorts layout to_plan) read failed before.tree after.tree
only_read_once layout read before after l now fresh only since =
    let same : (world_state after now).origin ≡ origin_on layout read before.tree = only.origin ∙ fresh in
    record {
      only = record {
        asked = since.asked;
        looks = record {
          told = since.told ∙ ap (λ o. with_asked since.asked o.told) same;
          changes = since.changes ∙ ap (λ o. o.changes) same;
          calls = only.calls;
          ends = record { faults = only.faults; sure = only.sure; safe = only.safe };
        };
      };
      distinct = subst (λ o. NoRepeats (o.opened ++ since.asked)) same since.distinct;
      listed = listed_on before.tree.told refl (subst (λ o. IsSome o.told → ArePagePaths o.page_paths since.asked) same since.within);
    }
  where
    listed_on : (told : Option Told) → before.tree.told ≡ told → (IsSome before.tree.told → ArePagePaths (page_paths_in layout before.tree.told) since.asked)
        → IfSome told (λ t. (path : Path) → Contains since.asked path → IsOfPorts layout to_plan t.files path)
    listed_on None is within = tt
    listed_on (Some t) is within = λ path has. subst (λ told. IsOn told path) is (within (subst IsSome (sym is) refl) path has)
      where
        IsOn : Option Told → Path → Type 0
        IsOn told path = (port : _) × Contains (page_paths_in layout told port) path

-- the same of a world that was made over an archive, and gave its tree back
pub tree_read_once : {T : Type 0} {failed : Bool} (layout : Layout) (read : List Path) (state : T → State) (was now : WorldView T) (archive : ArchiveView T) (left : T)
    → was.archive ≡ archive → left ≡ now.archive.tree → (state_of state was).origin ≡ origin_on layout read (state archive.tree)
    → OnlyAsked failed (state_of state was) (state_of state now) → IsReadSince (state_of state now).origin (state left)
    → ReadsOnce (IsOfPorts layout to_plan) read failed (state archive.tree) (state left)
tree_read_once {failed = failed} layout read state was now archive left one two fresh only since =
    let fresh_there = fresh ∙ ap (λ a. origin_on layout read (state a.tree)) (sym one) in
    let since_there = subst (λ t. IsReadSince (state_of state now).origin (state t)) two since in
    let once = only_read_once layout read (held state was.archive) (held state now.archive) was.learned now.learned fresh_there only since_there in
    subst (λ a. ReadsOnce (IsOfPorts layout to_plan) read failed (state a.tree) (state left)) one
    (subst (λ t. ReadsOnce (IsOfPorts layout to_plan) read failed (state was.archive.tree) (state t)) (sym two) once)
