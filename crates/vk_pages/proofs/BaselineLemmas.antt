-- Baselines that are noted: one more, and what a note gives.
use Rattle.std.proofs.Common.{◌≡◌, ℕ, true, false, List, [], ◌∷◌, ◌++◌, refl}
use Rattle.std.specs.Prelude.{Some, Result, Ok, Err, bytes_eq}
use Rattle.std.specs.Bool.{Decides}
use Rattle.std.specs.Result.{IsErrAnd}
use Rattle.std.proofs.lemmas.Result.{err_from_is_err_and}
use Rattle.std.proofs.lemmas.Slice.Eq.{bytes_eq-Decides, slice_eq-Decides}
use Rattle.vk_spec.specs.Paths.{Path}
use Rattle.vk_spec.specs.Files.{Files}
use Rattle.vk_spec.specs.Reading.{Gives}
use Rattle.vk_spec.proofs.VersionLemmas.{both_decide}
use Rattle.vk_registry.specs.Baselines.{Entry}
use Rattle.vk_registry.specs.declared.baselines.Baseline.{Baseline}
use Rattle.vk_catalogue.specs.Views.{given_view, wrong_view}
use Rattle.vk_model.specs.declared.wrongs.Given.{Given}
use Rattle.vk_model.specs.declared.wrongs.Wrong.{Wrong}
use Rattle.vk_files.specs.Kept.{Held}
use Rattle.vk_files.specs.Views.{same_path}
use Rattle.vk_base.specs.Stops.{has_failed}
use Rattle.vk_base.specs.Stops.{fault_seen}
use Rattle.vk_files.specs.Readings.{Bad}
use Rattle.vk_files.specs.declared.bad_files.BadFile.{BadFile}
use Rattle.vk_base.specs.declared.stops.Stop.{Stop}
use Rattle.vk_files.proofs.FirstLemmas.{never}
use Rattle.vk_files.proofs.NoteLemmas.{right_more, right_found}
use Rattle.vk_files.specs.Finds.{Finds, ReadsFrom}
use Rattle.vk_pages.specs.Homes.{baseline_file, baseline_given, baseline_for}
use Rattle.vk_pages.specs.BaselineNotes.{BaselineNotes, same_served, baseline_noted, IsBaselineOf, AreBaselines, nothing_said}
use Rattle.vk_pages.specs.HomeViews.{served_view}
use Rattle.vk_pages.specs.NoteViews.{read_view}
use Rattle.vk_pages.specs.declared.served.Served.{Served}
use Rattle.vk_files.proofs.FindLemmas.{learned_so}

served_decides : (a b : Served) → Decides (same_served a b) ((a.folder ≡ b.folder) × (a.baseline ≡ b.baseline))
served_decides a b = both_decide (same_path a.folder b.folder) (bytes_eq a.baseline b.baseline) (slice_eq-Decides bytes_eq-Decides a.folder b.folder (same_path a.folder b.folder) refl) (bytes_eq-Decides a.baseline b.baseline)

pub served_is : (a b : Served) → same_served a b ≡ true → a ≡ b
served_is a b e = let p = (served_decides a b).0 e in λ i. record { folder = p.0 i; baseline = p.1 i }

pub served_itself : (a : Served) → same_served a a ≡ true
served_itself a = (served_decides a a).1 (refl, refl)

-- the baseline of a registry was read, and is noted
pub noted_one : {found : ℕ} (served : Served) {read : Result Baseline BadFile} (notes : BaselineNotes) {more : BaselineNotes} {paths : Files → List Path} {a b : Held} → more ≡ notes ++ (served, read_view read) ∷ []
    → ReadsFrom wrong_view read_view (Ok read) (λ f. Ok (baseline_file (served_view served) f)) paths a b → Finds wrong_view (λ (done : ℕ). tt {0}) (Ok found) nothing_said paths (AreBaselines notes) (AreBaselines more) a b
noted_one served {read = read} notes all one = record {
  reads = learned_so refl (λ f known. (tt, λ p has. has)) (λ f before nothing gives.
      let is : read_view read ≡ baseline_file (served_view served) f = (cc) in
      (rw all (right_more (IsBaselineOf f) notes ((served, read_view read) ∷ []) before (is, tt {0})), refl)) one.reads;
}

-- it wasn't read
pub noted_none : {answer : Result ℕ (Stop Wrong)} {s : Stop Wrong} (served : Served) {Known : Files → Type 0} {paths : Files → List Path} {a b : Held}
    → ReadsFrom {X = Result Baseline BadFile} wrong_view read_view (Err s) (λ f. Ok (baseline_file (served_view served) f)) paths a b → IsErrAnd answer (λ e. e ≡ s)
    → Finds wrong_view (λ done. tt {0}) answer nothing_said paths Known Known a b
noted_none {answer = answer} {s = s} served one is =
    let p = err_from_is_err_and answer is in
    rw (p.1, p.2) (record {
      reads = learned_so refl (λ f known. (tt, λ p has. has)) (λ f before nothing fails. (before, never (fault_seen wrong_view s) (baseline_file (served_view served) f) (tt {0}) fails)) one.reads;
    })

-- what a note gives is what the file gives
pub note_gives : {found : ℕ} (served : Served) (port : List ℕ) {read : Result (List Entry) Bad} (notes before : BaselineNotes) {answer : Result Given (Stop Wrong)} {paths : Files → List Path} {a b : Held}
    → baseline_noted served notes ≡ Some read → has_failed answer ≡ false → Gives given_view (fault_seen wrong_view) answer (baseline_given port read)
    → Finds wrong_view (λ (done : ℕ). tt {0}) (Ok found) nothing_said paths (AreBaselines before) (AreBaselines notes) a b → Finds wrong_view given_view answer (baseline_for (served_view served) port) paths (AreBaselines before) (AreBaselines notes) a b
note_gives served port {read = read} notes before found calm gives looked = record {
  reads = learned_so calm (λ f known. (known, λ p has. has)) (λ f old known said.
      let right : read ≡ baseline_file (served_view served) f = right_found (IsBaselineOf f) same_served served_is notes served read known found in
      (known, rw right at gives)) looked.reads;
}
