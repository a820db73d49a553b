-- What a report shows of an outcome, and which outcomes it shows whole.
use Rattle.std.specs.Prelude.{◌≢◌, ◌<◌, ◌^◌, List, [], length, map, option_map, Result, Ok, Err}
use Rattle.std.specs.List.{All}
use Rattle.vk_spec.specs.Earlies.{Early}
use Rattle.vk_spec.specs.Versions.{Version, text}
use Rattle.vk_resolution.specs.Faults.{Fault, conflicts, has_cycle, isnt_supported, lacks_feature, troubled}
use Rattle.vk_resolution.specs.Outcomes.{Outcome, planned, refused}
use Rattle.vk_resolution.specs.Planning.{Item}
use Rattle.vk_report_reader.specs.Earlies.{IsRightEarly}
use Rattle.vk_report_reader.specs.Faults.{IsRightFault}
use Rattle.vk_report_reader.specs.Items.{IsRightItem}
use Rattle.vk_report_reader.specs.Reasons.{IsRightReason}

-- ---- what is shown

-- a version's class isn't printed: what is read has that of texts
abbrev pub printed_version : Version → Version
printed_version v = record { class = text; text = v.text; port = v.port }

-- nor is what an item depends on
abbrev pub printed_item : Item → Item
printed_item item = record {
  instance = item.instance;
  version = printed_version item.version;
  line = item.line;
  features = item.features;
  needs = [];
}

abbrev pub printed_fault : Fault → Fault
printed_fault (troubled trouble n) = troubled trouble n
printed_fault (conflicts p v n w m) = conflicts p (printed_version v) n (printed_version w) m
printed_fault (lacks_feature who f v n) = lacks_feature who f (option_map printed_version v) n
printed_fault (isnt_supported who f v n) = isnt_supported who f (option_map printed_version v) n
printed_fault (has_cycle walk) = has_cycle walk

-- an outcome without what its report leaves out
abbrev pub shown : Result Outcome Early → Result Outcome Early
shown (Ok (planned items reasons)) = Ok (planned (map printed_item items) reasons)
shown (Ok (refused faults reasons)) = Ok (refused (map printed_fault faults) reasons)
shown (Err early) = Err early

-- ---- what is shown whole

-- fewer than 2^32, each of them right
abbrev pub AreRight : {X : Type 0} → (X → Type 0) → List X → Type 0
AreRight is_right xs = All is_right xs × (length xs < 2 ^ 32)

-- right items or faults, and right reasons; a refusal has a fault
abbrev pub IsShowable : Result Outcome Early → Type 0
IsShowable (Ok (planned items reasons)) = AreRight IsRightItem items × AreRight IsRightReason reasons
IsShowable (Ok (refused faults reasons)) = (faults ≢ []) × AreRight IsRightFault faults × AreRight IsRightReason reasons
IsShowable (Err early) = IsRightEarly early
