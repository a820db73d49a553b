-- A gathering, step by step.
use Rattle.std.proofs.Common.{◌≡◌, [], ◌∷◌, ℕ, List, ap, sym, ◌∙◌, refl, subst}
use Rattle.std.specs.Prelude.{Result, Ok, Err}
use Rattle.vk_spec.specs.Paths.{Path}
use Rattle.vk_spec.specs.States.{State}
use Rattle.vk_base.specs.declared.limits.Limit.{Limit}
use Rattle.vk_base.specs.declared.stops.Outage.{Outage}
use Rattle.vk_protocol.specs.Protocols.{Protocol, ends, asks, ◌>>=◌}
use Rattle.vk_protocol.specs.Runs.{IsAtEnd, NextIs, Stepped}
use Rattle.vk_walk.specs.Walked.{walk_limits}
use Rattle.vk_walk.specs.WalkProtocol.{walk_of}
use Rattle.vk_walk.specs.WalkMachine.{walk_means}
use Rattle.vk_walk.specs.declared.walks.Walk.{Walk}
use Rattle.vk_entry.specs.Packages.{File}
use Rattle.vk_gather.specs.Gathers.{gather_of, read_found, seen_in}
use Rattle.vk_gather.specs.FilesToGather.{FilesToGather}
use Rattle.vk_gather.specs.GatherMachine.{files_left, gather_means, now_means, walk_left}
use Rattle.vk_gather.specs.declared.gathering.GatherNow.{GatherNow}
use Rattle.vk_gather.specs.declared.gathering.GatherNow.TheVariants as now
use Rattle.vk_gather.specs.declared.gathering.Gathering.{Gathering}

-- ---- one step

-- the walk that a gathering begins with
pub first_walk : (most : ℕ) (folder : Path) (walk : Walk) (r : Result GatherNow Outage) (a b : State) → walk_means walk ≡ walk_of walk_limits folder
    → NextIs (walk_left most folder walk) (now_means most folder) r a b → NextIs (gather_of most folder) (now_means most folder) r a b
unfolding gather_of
first_walk most folder walk r a b is h = subst (λ p. NextIs (p >>= read_found most folder) (now_means most folder) r a b) is h

other_rest : {A : Type 0} (p q r : Protocol A) (e : Outage) (a b : State) → Stepped p (Err e) q a b → Stepped p (Err e) r a b
other_rest (ends x) q r e a b h = h
other_rest (asks call k) q r e a b h = h

pub gather_stepped : (g : Gathering) (at next : GatherNow) (u : Unit {0}) (a b : State) → at ≡ g.at → NextIs (now_means g.most g.folder at) (now_means g.most g.folder) (Ok next) a b
    → Stepped (gather_means g) (Ok u) (gather_means (record { alloc = g.alloc; folder = g.folder; most = g.most; at = next })) a b
unfolding gather_means
gather_stepped g at next u a b is h = subst (λ x. Stepped (now_means g.most g.folder x) (Ok u) (now_means g.most g.folder next) a b) is h

pub gather_stopped : (g h : Gathering) (at : GatherNow) (e : Outage) (a b : State) → at ≡ g.at → NextIs (now_means g.most g.folder at) (now_means g.most g.folder) (Err e) a b
    → Stepped (gather_means g) (Err e) (gather_means h) a b
unfolding gather_means
gather_stopped g h at e a b is stopped =
    other_rest (now_means g.most g.folder g.at) (now_means g.most g.folder g.at) (now_means h.most h.folder h.at) e a b (subst (λ x. Stepped (now_means g.most g.folder x) (Err e) (now_means g.most g.folder x) a b) is stopped)

-- ---- the end

nothing_left : (most : ℕ) (folder : Path) (paths : List Path) → IsAtEnd (files_left most folder paths (record { files = []; room = most })) → files_left most folder paths (record { files = []; room = most }) ≡ ends (Ok [])
nothing_left most folder [] h = refl
nothing_left most folder (p ∷ ps) h = absurd h

-- a gathering that ended with its walk found nothing
pub nothing_found : (walk : Walk) (found : List Path) (files : List File) → walk_means walk ≡ ends (Ok found) → files ≡ [] → (most : ℕ) (folder : Path) → IsAtEnd (walk_left most folder walk) → walk_left most folder walk ≡ ends (Ok files)
nothing_found walk found files is none most folder h =
    ap (λ p. p >>= read_found most folder) is
    ∙ nothing_left most folder (seen_in folder found) (subst (λ p. IsAtEnd (p >>= read_found most folder)) is h)
    ∙ ap (λ l. ends (Ok l)) (sym none)

first_end : {A B : Type 0} (p : Protocol A) (f : A → Protocol B) → IsAtEnd (p >>= f) → IsAtEnd p
first_end (ends x) f h = tt
first_end (asks call k) f h = h

module _ (g : Gathering) where
  pub never_start : now.Start ≡ g.at → IsAtEnd (gather_means g) → ⊥
  unfolding gather_means gather_of walk_of
  never_start is h = subst (λ at. IsAtEnd (now_means g.most g.folder at)) (sym is) h

  pub never_files : (left : FilesToGather) → now.Files left ≡ g.at → IsAtEnd (gather_means g) → ⊥
  unfolding gather_means
  never_files left is h = subst (λ at. IsAtEnd (now_means g.most g.folder at)) (sym is) h

  pub walk_ended : (walk : Walk) → now.Walks walk ≡ g.at → IsAtEnd (gather_means g) → IsAtEnd (walk_means walk)
  unfolding gather_means
  walk_ended walk is h = first_end (walk_means walk) (read_found g.most g.folder) (subst (λ at. IsAtEnd (now_means g.most g.folder at)) (sym is) h)

  pub end_by_walk : (walk : Walk) (r : Result (List File) Limit) → now.Walks walk ≡ g.at → IsAtEnd (gather_means g) → ((most : ℕ) (folder : Path) → IsAtEnd (walk_left most folder walk) → walk_left most folder walk ≡ ends r) → gather_means g ≡ ends r
  unfolding gather_means
  end_by_walk walk r is h ended =
      ap (now_means g.most g.folder) (sym is) ∙ ended g.most g.folder (subst (λ at. IsAtEnd (now_means g.most g.folder at)) (sym is) h)

  pub end_is : (r : Result (List File) Limit) → now.Ended r ≡ g.at → gather_means g ≡ ends r
  unfolding gather_means
  end_is r is = ap (now_means g.most g.folder) (sym is)
