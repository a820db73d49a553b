-- What is left of a look that has come so far.
use Rattle.std.specs.Prelude.{Bool, true, false, ℕ, List, Option, Result, Ok}
use Rattle.vk_spec.specs.Calls.{read_of, Refusal}
use Rattle.vk_protocol.specs.Protocols.{Protocol, ends, asks, on_ok, each, ◌>>=◌}
use Rattle.vk_walk.specs.WalkMachine.{walk_means}
use Rattle.vk_walk.specs.declared.walks.Walk.{Walk}
use Rattle.vk_places.specs.Places.{file_at}
use Rattle.vk_entry.specs.Packages.{File}
use Rattle.vk_entry.specs.Contents.{Content}
use Rattle.vk_look.specs.LookIs.{Wanted}
use Rattle.vk_look.specs.Looks.{Looked, look_of, look_text, look_contents, look_found, look_file, file_told, looked}
use Rattle.vk_looking.specs.FilesToRead.{FilesToRead}
use Rattle.vk_looking.specs.declared.left.Left.{Left}
use Rattle.vk_looking.specs.declared.left.Left.TheVariants as left
use Rattle.vk_looking.specs.declared.looking.LookFor.{LookFor}
use Rattle.vk_looking.specs.declared.looking.LookNow.{LookNow}
use Rattle.vk_looking.specs.declared.looking.LookNow.TheVariants as now
use Rattle.vk_looking.specs.declared.looking.Looking.{Looking}

abbrev pub wanted_view : LookFor → Wanted
wanted_view w = record { entry = w.folder.now; hash = w.digest.now.bytes; text = w.text.now; most = w.most }

-- the listed files that are left, and what follows
abbrev pub files_left : Wanted → List ℕ → List Content → Option (List File) → Protocol Looked
files_left w kept cs files = each (look_file w.entry) cs files >>= λ r. ends (looked w kept r)

-- what the reply to the reading of the next one leads to
abbrev pub after_file : Wanted → List ℕ → FilesToRead → Result (List ℕ) Refusal → Protocol Looked
after_file w kept l reply = on_ok (each (look_file w.entry) l.later) (file_told l.next l.files reply) >>= λ r. ends (looked w kept r)

abbrev pub at_file : Wanted → List ℕ → FilesToRead → Protocol Looked
at_file w kept l = asks (read_of (file_at w.entry l.next.path) l.next.size) (after_file w kept l)

-- the walk that is left, and what follows
abbrev pub walk_left : Wanted → List ℕ → List Content → Walk → Protocol Looked
walk_left w kept cs walk = walk_means walk >>= look_found w kept cs

-- the next file, or the files that were kept
abbrev pub left_means : Wanted → List ℕ → Left → Protocol Looked
left_means w kept (left.Next l) = at_file w kept l
left_means w kept (left.All files) = ends (looked w kept (Ok files))

abbrev pub now_means : Wanted → LookNow → Protocol Looked
now_means w now.Kind = look_of w
now_means w now.Text = look_text w
now_means w (now.Contents kept) = look_contents w kept
now_means w (now.Walks kept lines walk) = walk_left w kept lines walk
now_means w (now.Files kept l) = at_file w kept l
now_means w (now.Ended l) = ends l

-- whether it may be to make a call
abbrev pub may_ask : LookNow → Bool
may_ask now.Kind = true
may_ask now.Text = true
may_ask (now.Contents kept) = true
may_ask (now.Walks kept lines walk) = true
may_ask (now.Files kept l) = true
may_ask (now.Ended l) = false

unfoldable pub look_means : Looking → Protocol Looked
look_means l = now_means (wanted_view l.wanted) l.at
