-- What the reading of the listed files comes to over files that stay.
use Rattle.std.proofs.Common.{◌≡◌, inl, inr, ◌++◌, [], ◌∷◌, ℕ, List, length, Bool, true, false, refl, sym, ◌∙◌, subst, arith, ◌==◌, if◌then◌else◌}
use Rattle.std.specs.Prelude.{Option, Some, None, Result, Ok, Err}
use Rattle.std.specs.List.{Contains}
use Rattle.std.specs.Str.{bytes_eq}
use Rattle.std.proofs.lemmas.Bool.Decides.{nat_tests}
use Rattle.std.proofs.lemmas.List.{append_assoc, append-nil, map-append}
use Rattle.std.proofs.lemmas.List.Elements.{Contains-append_right, Contains-push_cases}
use Rattle.sha2.specs.Sha256.{sha256}
use Rattle.vk_spec.specs.Paths.{Path}
use Rattle.vk_spec.specs.Standing.{Disk, IsFile}
use Rattle.vk_spec.specs.Calls.{read_of, missing, too_large, exists, many}
use Rattle.vk_spec.proofs.FileLemmas.{none_some}
use Rattle.vk_spec.proofs.ListLemmas.{contains_first, contains_nothing}
use Rattle.vk_entry.specs.Packages.{File}
use Rattle.vk_entry.specs.Contents.{Content, content_of}
use Rattle.vk_resolution.proofs.Members.{contains_map}
use Rattle.vk_protocol.specs.Protocols.{Reply, on_ok, each}
use Rattle.vk_protocol.specs.Runs.{Replies, Tells}
use Rattle.vk_places.specs.Places.{file_at}
use Rattle.vk_look.specs.LookIs.{IsAsListed, IsWrong, FirstWrong, Holds}
use Rattle.vk_look.specs.Looks.{with_file, file_read, file_told, look_file, no_files}
use Rattle.vk_look.specs.declared.answers.Harm.{Harm}
use Rattle.vk_look.specs.declared.answers.Harm.TheVariants.{Size, Hash}
use Rattle.vk_look.proofs.PlaceTests.{if_case, same_bytes, other_bytes}

-- the listed files so far are as they are listed, and are kept or not
abbrev pub Held : Path → Bool → List Content → Option (List File) → Disk → Type 0
Held entry keep before (Some files) d = (keep ≡ true) × Holds entry before files d
Held entry keep before None d = (keep ≡ false) × (files : List File) × Holds entry before files d

-- or one is the first that isn't
abbrev pub Goes : Path → Bool → List Content → List Content → Disk → Result (Option (List File)) Harm → Type 0
Goes entry keep cs before d (Ok files) = Held entry keep before files d
Goes entry keep cs before d (Err harm) = FirstWrong harm entry cs d

module _ (entry : Path) (keep : Bool) (d : Disk) where
  holds_none : Holds entry [] [] d
  holds_none = record { stand = λ file at. absurd (contains_nothing file at); listed = refl }

  holds_push : (cs : List Content) (files : List File) (c : Content) (file : File) → Holds entry cs files d → IsAsListed entry c file d → Holds entry (cs ++ c ∷ []) (files ++ file ∷ []) d
  holds_push cs files c file h is = record {
    stand = λ f at. elim (Contains-push_cases files file f at) [
      | inl before ↦ h.stand f before
      | inr same ↦ subst (λ g. d (file_at entry g.path) ≡ Some g.bytes) same is.stands
    ];
    listed = map-append content_of files (file ∷ []) ∙ (λ i. h.listed i ++ is.listed i ∷ []);
  }

  pub holds_each : (cs : List Content) (files : List File) → Holds entry cs files d → (c : Content) → Contains cs c → (file : File) × IsAsListed entry c file d
  holds_each cs files h c at =
      let f = contains_map content_of files c (subst (λ l. Contains l c) (sym h.listed) at) in
      (f.0, record { stands = h.stand f.0 f.1; listed = f.2 })

  held_each : (before : List Content) (files : Option (List File)) → Held entry keep before files d → (c : Content) → Contains before c → (file : File) × IsAsListed entry c file d
  held_each before (Some files) h = holds_each before files h.1
  held_each before None h = holds_each before h.1 h.2

  wrong_at : (harm : Harm) (before : List Content) (c : Content) (rest : List Content) (files : Option (List File)) → Held entry keep before files d → IsWrong harm entry c d → FirstWrong harm entry (before ++ c ∷ rest) d
  wrong_at harm before c rest files h wrong = record { before = before; at = c; later = rest; split = refl; right = held_each before files h; wrong = wrong }

  held_more : (before : List Content) (c : Content) (bytes : List ℕ) (files : Option (List File)) → Held entry keep before files d → IsAsListed entry c (record { path = c.path; bytes = bytes }) d → Held entry keep (before ++ c ∷ []) (with_file c bytes files) d
  held_more before c bytes (Some files) h is = (h.0, holds_push before files c (record { path = c.path; bytes = bytes }) h.1 is)
  held_more before c bytes None h is = (h.0, h.1 ++ record { path = c.path; bytes = bytes } ∷ [], holds_push before h.1 c (record { path = c.path; bytes = bytes }) h.2 is)

  file_goes : (before : List Content) (c : Content) (rest : List Content) (files : Option (List File)) → IsFile d (file_at entry c.path) → Held entry keep before files d
      → (reply : Reply (read_of (file_at entry c.path) c.size)) → Replies (read_of (file_at entry c.path) c.size) reply d → Goes entry keep (before ++ c ∷ rest) (before ++ c ∷ []) d (file_told c files reply)
  file_goes before c rest files there so (Ok bytes) may =
      if_case (λ o. Goes entry keep (before ++ c ∷ rest) (before ++ c ∷ []) d (file_read c bytes files o)) (length bytes == c.size) (if bytes_eq (sha256 bytes) c.digest then None else Some Hash) (Some Size)
      (λ long. let long_is : length bytes ≡ c.size = grind (arith, nat_tests, long) in
      if_case (λ o. Goes entry keep (before ++ c ∷ rest) (before ++ c ∷ []) d (file_read c bytes files o)) (bytes_eq (sha256 bytes) c.digest) None (Some Hash)
      (λ same. held_more before c bytes files so (record { stands = may.says; listed = λ i. record { path = c.path; size = long_is i; digest = same_bytes (sha256 bytes) c.digest same i } }))
      (λ other. wrong_at Hash before c rest files so (bytes, may.says, long_is, other_bytes (sha256 bytes) c.digest other)))
      (λ short. wrong_at Size before c rest files so (bytes, may.says, λ e. grind (arith, nat_tests, short, e)))
  file_goes before c rest files there so (Err missing) may = absurd (none_some (d (file_at entry c.path)) may.says there)
  file_goes before c rest files there so (Err too_large) may = wrong_at Size before c rest files so (may.says.0, may.says.1, λ e. omega (arith, e, may.says.2))
  file_goes before c rest files there so (Err exists) may = absurd may.says
  file_goes before c rest files there so (Err many) may = absurd may.says

  pub each_goes : (cs before rest : List Content) (r : Result (Option (List File)) Harm) → cs ≡ before ++ rest → ((c : Content) → Contains cs c → IsFile d (file_at entry c.path)) → Goes entry keep cs before d r
      → Tells (Goes entry keep cs cs d) (on_ok (each (look_file entry) rest) r) d
  each_goes cs before rest (Err harm) split there so = so
  each_goes cs before [] (Ok files) split there so = subst (λ b. Goes entry keep cs b d (Ok files)) (sym (split ∙ append-nil before)) so
  each_goes cs before (c ∷ rest) (Ok files) split there so =
      let at : Contains cs c = subst (λ l. Contains l c) (sym split) (Contains-append_right before (c ∷ rest) c (contains_first c rest)) in
      λ reply may. each_goes cs (before ++ c ∷ []) rest (file_told c files reply) (split ∙ sym (append_assoc before (c ∷ []) rest)) there
      (subst (λ l. Goes entry keep l (before ++ c ∷ []) d (file_told c files reply)) (sym split) (file_goes before c rest files (there c at) so reply may))

pub none_held : (entry : Path) (keep : Bool) (d : Disk) → Held entry keep [] (no_files keep) d
none_held entry true d = (refl, holds_none entry true d)
none_held entry false d = (refl, [], holds_none entry false d)
