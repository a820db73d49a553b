-- What the fault lines of the phases mean.
use Rattle.vk_spec.specs.Conditions.{holds, Condition}
use Rattle.std.specs.Prelude.{◌≡◌, ◌≢◌, ◌≤◌, ◌<◌, ◌↔◌, ℕ, false, List, Option, Some, None, Ok}
use Rattle.std.specs.Ordering.{nat_cmp}
use Rattle.std.specs.declared.cmp.Ordering.TheVariants.{Less}
use Rattle.std.specs.Cmp.Lexicographic.{slice_cmp}
use Rattle.std.specs.List.{Contains}
use Rattle.vk_spec.specs.Versions.{Version, ask_of}
use Rattle.vk_spec.specs.Manifests.{Manifest, Feature, core, default}
use Rattle.vk_spec.specs.Settings.{Instance}
use Rattle.vk_resolution.specs.Keys.{key_cmp}
use Rattle.vk_resolution.specs.Settings.{Who, root, inst, marks_of, triplet_of, feature_of}
use Rattle.vk_resolution.specs.Givens.{manifest_at}
use Rattle.vk_resolution.specs.Asking.{Fact, need, floor}
use Rattle.vk_resolution.specs.Consequences.{Inputs, is_below}
use Rattle.vk_resolution.specs.Choices.{floors_of, chosen_of, class_number, version_key, IsInConflict}
use Rattle.vk_resolution.specs.Reasons.{line_of, fact_at}
use Rattle.vk_resolution.specs.Faults.{Trouble, troubles_of, Fault, troubled, conflicts, lacks_feature, isnt_supported, first_faults_of, second_faults_of, third_faults_of}

-- a trouble is told with the first line that meets it
pub record IsTold (inputs : Inputs) (facts : List Fact) (fault : Fault) : Type 0 where
  pub trouble : Trouble
  pub n : ℕ
  pub is : fault ≡ troubled trouble n
  pub fact : Fact
  pub line : fact_at facts n ≡ Some fact
  pub meets : Contains (troubles_of inputs fact) trouble
  pub first : (m : ℕ) (other : Fact) → fact_at facts m ≡ Some other → Contains (troubles_of inputs other) trouble → n ≤ m

-- the lines of the first phase
abbrev pub FirstLinesMean : Type 0
FirstLinesMean = (inputs : Inputs) (facts : List Fact) (fault : Fault) → (Contains (first_faults_of inputs facts) fault → IsTold inputs facts fault) × (IsTold inputs facts fault → Contains (first_faults_of inputs facts) fault)

-- a floor of the port that no other is above
pub record IsTopFloor (inputs : Inputs) (facts : List Fact) (p : List ℕ) (v : Version) : Type 0 where
  pub floor : Contains (floors_of inputs facts p) v
  pub none_above : (w : Version) → Contains (floors_of inputs facts p) w → is_below inputs v w ≡ false

-- a port in conflict is told with two of its floors that no other is above, and their lines; the two differ, and are the first such floors by `version_key`
pub record IsConflictLine (inputs : Inputs) (facts : List Fact) (fault : Fault) : Type 0 where
  pub port : List ℕ
  pub conflict : IsInConflict inputs facts port
  pub one : Version
  pub one_line : ℕ
  pub other : Version
  pub other_line : ℕ
  pub is : fault ≡ conflicts port one one_line other other_line
  pub one_top : IsTopFloor inputs facts port one
  pub other_top : IsTopFloor inputs facts port other
  pub differ : one ≢ other
  pub before : key_cmp (version_key one) (version_key other) ≡ Less
  pub after : (v : Version) → IsTopFloor inputs facts port v → v ≢ one → v ≢ other → key_cmp (version_key other) (version_key v) ≡ Less
  pub one_cited : line_of facts (floor port (ask_of one)) ≡ Some one_line
  pub other_cited : line_of facts (floor port (ask_of other)) ≡ Some other_line

-- the lines of the second phase
abbrev pub SecondLinesMean : Type 0
SecondLinesMean = (inputs : Inputs) (facts : List Fact) (fault : Fault) → Contains (second_faults_of inputs facts) fault ↔ IsConflictLine inputs facts fault

-- one version comes before another by its text, byte by byte; where the texts are the same, by its port-version; and then by its class
pub data ComesBefore (v w : Version) : Type 0 where
  by_text : slice_cmp nat_cmp v.text w.text ≡ Less → ComesBefore v w
  by_port : v.text ≡ w.text → v.port < w.port → ComesBefore v w
  by_class : v.text ≡ w.text → v.port ≡ w.port → class_number v.class < class_number w.class → ComesBefore v w

-- `version_key` orders versions so
abbrev pub VersionsComeInOrder : Type 0
VersionsComeInOrder = (v w : Version) → key_cmp (version_key v) (version_key w) ≡ Less ↔ ComesBefore v w

-- what a need is judged by: the root's manifest, or that of the chosen version
pub data IsJudgedBy (inputs : Inputs) (facts : List Fact) : Who → Option Version → Manifest Condition → Type 0 where
  by_root : (triplet : List ℕ) → IsJudgedBy inputs facts (root triplet) None inputs.setting.root
  by_choice : (i : Instance) (v : Version) (m : Manifest Condition) → chosen_of inputs facts i.port ≡ Some v → manifest_at inputs.pages i.port (ask_of v) ≡ Some (Ok m) → IsJudgedBy inputs facts (inst i) (Some v) m

-- what is wrong with a need
pub data IsWrongWith (inputs : Inputs) (who : Who) (f : List ℕ) (v : Option Version) (m : Manifest Condition) (n : ℕ) : Fault → Type 0 where
  no_such_feature : f ≢ core → f ≢ default → feature_of m f ≡ None → IsWrongWith inputs who f v m n (lacks_feature who f v n)
  no_support : f ≡ core → holds m.supports (marks_of inputs.setting (triplet_of who)) ≡ false → IsWrongWith inputs who f v m n (isnt_supported who f v n)
  no_feature_support : (g : Feature Condition) → f ≢ core → f ≢ default → feature_of m f ≡ Some g → holds g.supports (marks_of inputs.setting (triplet_of who)) ≡ false → IsWrongWith inputs who f v m n (isnt_supported who f v n)

-- a planned need, on its line, with what is wrong with it
pub record IsJudged (inputs : Inputs) (facts planned : List Fact) (fault : Fault) : Type 0 where
  pub who : Who
  pub f : List ℕ
  pub needed : Contains planned (need who f)
  pub n : ℕ
  pub line : line_of facts (need who f) ≡ Some n
  pub v : Option Version
  pub m : Manifest Condition
  pub judged_by : IsJudgedBy inputs facts who v m
  pub wrong : IsWrongWith inputs who f v m n fault

-- the lines of the third phase
abbrev pub ThirdLinesMean : Type 0
ThirdLinesMean = (inputs : Inputs) (facts planned : List Fact) (fault : Fault) → (Contains (third_faults_of inputs facts planned) fault → IsJudged inputs facts planned fault) × (IsJudged inputs facts planned fault → Contains (third_faults_of inputs facts planned) fault)
