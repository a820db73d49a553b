-- The steps of a publishing.
use Rattle.std.proofs.Common.{◌≡◌, ◌<◌, ◌+◌, ◌++◌, [], ◌∷◌, ℕ, List, length, map, refl, ap, sym, ◌∙◌, subst}
use Rattle.std.specs.Prelude.{drop, get_or, Result, Ok, Err}
use Rattle.std.proofs.lemmas.List.{drop_more, drop-map}
use Rattle.vk_spec.specs.Paths.{Path}
use Rattle.vk_spec.specs.States.{State}
use Rattle.vk_spec.specs.Standing.{OnFiles}
use Rattle.vk_spec.specs.Calls.{CanMake}
use Rattle.vk_base.specs.declared.stops.Outage.{Outage}
use Rattle.vk_entry.specs.Packages.{File}
use Rattle.vk_entry.specs.PackageViews.{file_view}
use Rattle.vk_entry.specs.declared.packages.PackageFile.{PackageFile}
use Rattle.vk_protocol.specs.Asking.{DoneSays}
use Rattle.vk_places.specs.Places.{tmp_at, entry_at}
use Rattle.vk_publish.specs.declared.jobs.PublishJob.{PublishJob}
use Rattle.vk_publish.specs.declared.publishing.PublishNow.{PublishNow}
use Rattle.vk_publish.specs.declared.publishing.PublishNow.TheVariants as next
use Rattle.vk_protocol.specs.Runs.{Asked, CanAsk, CanRunOn, CameTo, IsAtEnd, NextIs, Ran, Stepped, Stops}
use Rattle.vk_protocol.specs.Protocols.{Protocol, ends}
use Rattle.vk_protocol.proofs.RunLemmas.{ran_to}
use Rattle.vk_base.specs.declared.limits.Limit.{Limit}
use Rattle.vk_publish.specs.declared.answers.Published.{Published}
use Rattle.vk_publish.specs.Entries.{Placed, placed_file, last_files}
use Rattle.vk_publish.specs.Publish.{write_all}
use Rattle.vk_publish.specs.PublishMachine.{write_call, write_left, files_left, publish_left, whole_of}

-- what is left to write isn't the end
pub writes_on : (at to : Path) (files : List Placed) → IsAtEnd (write_all at files to) → ⊥
writes_on at to [] end = end
writes_on at to (x ∷ files) end = end

pub files_on : (job : PublishJob) (at : PublishNow) (n k : ℕ) → at ≡ next.Files n k → IsAtEnd (publish_left job at) → ⊥
unfolding publish_left
files_on job at n k is end = writes_on (tmp_at job.target.cache.now job.target.agent.now n) (entry_at job.target.cache.now job.target.digest.now.bytes) (map placed_file (drop k job.built.now) ++ last_files job.text.now job.built.now) (subst (λ x. IsAtEnd (publish_left job x)) is end)

-- ---- one file

-- the files from one on begin with it
pub file_first : (files : List File) (lent : List PackageFile) (k : ℕ) (file : PackageFile) → map file_view lent ≡ files → k < length lent → file ≡ get_or lent k file → map placed_file (drop k files) ≡ placed_file (file_view file) ∷ map placed_file (drop (k + 1) files)
file_first files lent k file view within is =
    ap (λ l. map placed_file (drop k l)) (sym view)
    ∙ ap (map placed_file) (drop-map file_view k lent ∙ ap (map file_view) (drop_more lent k file within ∙ ap (λ x. x ∷ drop (k + 1) lent) (sym is)))
    ∙ ap (λ l. placed_file (file_view file) ∷ map placed_file l) (sym (drop-map file_view (k + 1) lent) ∙ ap (drop (k + 1)) view)

module _ (job : PublishJob) (n k : ℕ) (file : File) (is : map placed_file (drop k job.built.now) ≡ placed_file file ∷ map placed_file (drop (k + 1) job.built.now)) where
  abbrev last : List Placed
  last = last_files job.text.now job.built.now

  pub file_can : (s : State) → OnFiles (CanAsk (files_left job n k)) s → OnFiles (CanMake (write_call job n (placed_file file))) s
  file_can s can = subst (λ l. OnFiles (CanAsk (write_left job n (l ++ last))) s) is can

  pub file_stepped : (u : Unit {0}) (a b : State) → Asked (write_call job n (placed_file file)) DoneSays (Ok u) a b → NextIs (files_left job n k) (publish_left job) (Ok (next.Files n (k + 1))) a b
  unfolding publish_left
  file_stepped u a b asked = subst (λ l. Stepped (write_left job n (l ++ last)) (Ok tt) (files_left job n (k + 1)) a b) (sym is) (asked.0, asked.1, refl)

  pub file_stopped : (e : Outage) (a b : State) → Stops (write_call job n (placed_file file)) e a b → NextIs (files_left job n k) (publish_left job) (Err e) a b
  unfolding publish_left
  file_stopped e a b stops = subst (λ l. Stepped (write_left job n (l ++ last)) (Err e) (write_left job n (l ++ last)) a b) (sym is) stops

-- ---- a whole run

-- what it means at its start
abbrev pub start : PublishJob → Protocol (Result Published Limit)
start job = publish_left job next.Lists

pub can_begin : (job : PublishJob) (s : State) → CanRunOn (whole_of job) s → CanRunOn (start job) s
unfolding publish_left
can_begin job s can = can

pub stop_begun : (job : PublishJob) (q : Protocol (Result Published Limit)) (r : Result (Result Published Limit) Outage) (e o : Outage) (a b : State) → r ≡ Err e → e ≡ o → CameTo (start job) (Err o) q a b → Ran (whole_of job) r a b
unfolding publish_left
stop_begun job q r e o a b is same came = subst (λ x. Ran (whole_of job) x a b) (sym (is ∙ ap (λ y. Err y) same)) came

pub ran_begun : (job : PublishJob) (q : Protocol (Result Published Limit)) (x : Result Published Limit) (u : Unit {0}) (a b : State) → q ≡ ends x → CameTo (start job) (Ok u) q a b → Ran (whole_of job) (Ok x) a b
unfolding publish_left
ran_begun job q x u a b end came = ran_to (start job) q x u a b end came
