-- A catalogue in memory: what is known of it, and what its calls do.
use Rattle.std.specs.Prelude.{◌≡◌, Bool, true, [], Some, None}
use Rattle.vk_spec.specs.Pages as plain
use Rattle.vk_spec.specs.Catalogues.{Origin, CatalogueState}
use Rattle.vk_spec.specs.Conditions.{Condition}
pub use Rattle.vk_catalogue.specs.Shelves.{IsPageFor}
use Rattle.vk_catalogue.specs.Shelves.{Shelved, page_among, pages_of}
use Rattle.vk_base.specs.Schedules.{turn_of, is_calm, is_wrong, with_call, raised}
use Rattle.vk_catalogue.specs.declared.mem_catalogues.MemCatalogue.{MemCatalogue}
use Rattle.vk_base.specs.declared.schedules.Schedule.{Schedule}

-- the pages that were put, by their ports, in order
abbrev pub pages_put : MemCatalogue → Shelved (plain.Page Condition)
pages_put m = pages_of m.shelf

-- which calls are to fail
abbrev pub mem_schedule : MemCatalogue → Schedule
mem_schedule m = m.schedule

-- it was made over no tree, and its versions stand nowhere
abbrev pub no_origin : Origin
no_origin = record { told = None; changes = 0; opened = []; places = λ port v. None; page_paths = λ port. [] }

-- what is known of it
abbrev pub mem_state : MemCatalogue → CatalogueState Condition
mem_state m = record {
  pages = Some (page_among (pages_put m));
  origin = no_origin;
  calls = m.schedule.calls;
  faults = m.faults;
  sure = is_calm m.schedule;
}

-- a catalogue without pages
pub record IsNewCatalogue (m : MemCatalogue) : Type 0 where
  pub pages : pages_put m ≡ []
  pub faults : (mem_state m).faults ≡ 0
  pub calm : is_calm (mem_schedule m) ≡ true
  pub calls : (mem_schedule m).calls ≡ 0

-- it goes by another schedule, and all else stays
abbrev pub with_schedule : Schedule → MemCatalogue → MemCatalogue
with_schedule schedule m = record m { schedule = schedule }

-- which call fails, besides what every catalogue does: exactly the one whose turn it is
pub record MemCalls (failed : Bool) (before after : MemCatalogue) : Type 0 where
  pub turn : failed ≡ is_wrong (turn_of (mem_schedule before))
  pub faults : (mem_state after).faults ≡ raised failed (mem_state before).faults
  pub schedule : mem_schedule after ≡ with_call (mem_schedule before)
