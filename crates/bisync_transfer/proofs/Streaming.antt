-- What holds between the pieces of a copy, and where it ends early.
use Rattle.std.proofs.Common.{◌≡◌, ◌<◌, ◌≤◌, ◌++◌, ℕ, Bool, true, false, IsTrue, List, length, take, None, Some, Err, inl, inr, sym, ap, ◌∙◌, arith}
use Rattle.std.proofs.lemmas.Grind.{common_steps}
use Rattle.std.proofs.lemmas.List.{append_assoc}
use Rattle.bisync_tree.specs.Rows.{PathBytes}
use Rattle.bisync_tree.specs.Tree.{file_at}
use Rattle.bisync_tree.specs.declared.entries.Entry.{Entry}
use Rattle.bisync_tree.specs.declared.files.File.{File}
use Rattle.bisync_device.specs.Reading.{Reading, Takes}
use Rattle.bisync_device.specs.Remote.{RemoteState, KeepsTree}
use Rattle.bisync_transfer.specs.CallsMade.{MadeCalls}
use Rattle.bisync_transfer.specs.FileCopy.{Streams, CopyEffect, HasBytes}
use Rattle.bisync_transfer.specs.Tally.{Tallies}
use Rattle.bisync_transfer.specs.declared.copies.CopyFault.{CopyFault}
use Rattle.bisync_transfer.specs.declared.copies.CopyFault.TheVariants.{Source, Destination, Moved}
use Rattle.bisync_transfer.specs.declared.tallies.Tally.{Tally}

pub record Streaming (from_tells to_tells : Bool) (listed : Entry) (from0 to0 from to : RemoteState) (tally : Tally) : Type 0 where
  pub bytes : List ℕ
  pub tallied : Tallies listed tally bytes
  pub within : length bytes ≤ listed.size
  pub source : IsTrue from_tells → from0.reading.rest ≡ bytes ++ from.reading.rest
  pub part : IsTrue to_tells → to.part ≡ bytes
  pub opened : from.reading.opened ≡ true
  pub begun : to.begun ≡ true
  pub from_calls : MadeCalls false from0 from
  pub to_calls : MadeCalls false to0 to
  pub from_tree : KeepsTree from_tells from0 from
  pub to_tree : KeepsTree to_tells to0 to

-- what there was to read, by what was read before this piece and with it
pub longer : (tells : Bool) (before after : Reading) (all bytes buffer : List ℕ) (count : ℕ)
    → (IsTrue tells → all ≡ bytes ++ before.rest) → Takes tells before after count buffer
    → IsTrue tells → (more : List ℕ) × (all ≡ (bytes ++ take count buffer) ++ more)
longer tells before after all bytes buffer count source takes t =
    (after.rest, source t ∙ ap (λ l. bytes ++ l) (takes.bytes t) ∙ sym (append_assoc bytes (take count buffer) after.rest))

other_size : (m n : ℕ) → n < m → m ≡ n → ⊥
other_size m n less e = omega arith

too_long : (m n : ℕ) (P : Type 0) → n < m → m ≤ n → P
too_long m n P less e = absurd (omega arith)

kept_along : (tells : Bool) (a b c : RemoteState) → KeepsTree tells a b → KeepsTree tells b c → KeepsTree tells a c
kept_along tells a b c k l t = record { tree = (l t).tree ∙ (k t).tree; changes = (l t).changes ∙ (k t).changes; folders = (l t).folders ∙ (k t).folders }

at_most : (bytes more : List ℕ) (n : ℕ) → n ≤ length bytes → n ≤ length (bytes ++ more)
at_most bytes more n le = grind (arith, common_steps)

longer_still : (bytes more : List ℕ) (n : ℕ) → n < length bytes → n < length (bytes ++ more)
longer_still bytes more n less = grind (arith, common_steps)

-- what stood at the path is what was to read
has_bytes : (path : PathBytes) (from : RemoteState) (rest bytes : List ℕ)
    → ((file : File) × (file_at from.tree path ≡ Some file) × (rest ≡ file.bytes)) → rest ≡ bytes → HasBytes from path bytes
has_bytes path from rest bytes file is = (file.0, file.1, sym file.2 ∙ is)

-- a copy that ended while the file was read
pub ended : (from_tells to_tells : Bool) (path : PathBytes) (listed : Entry) (from opened to begun after : RemoteState) (fault : CopyFault)
    → (IsTrue from_tells → (file : File) × (file_at from.tree path ≡ Some file) × (opened.reading.rest ≡ file.bytes))
    → KeepsTree to_tells to begun → KeepsTree to_tells begun after
    → Streams from_tells to_tells listed opened begun after (Err fault) → CopyEffect from_tells to_tells path listed from to after (Err fault)
ended from_tells to_tells path listed from opened to begun after Source file first then s = kept_along to_tells to begun after first then
ended from_tells to_tells path listed from opened to begun after Destination file first then s = inl (kept_along to_tells to begun after first then)
ended from_tells to_tells path listed from opened to begun after (Moved None) file first then s = (
  kept_along to_tells to begun after first then,
  λ t. let more = s.3 t in
      inr (record {
        bytes = s.0 ++ more.0;
        there = has_bytes path from opened.reading.rest (s.0 ++ more.0) (file t) more.1;
        uncounted = at_most s.0 more.0 _ s.2;
        longer = longer_still s.0 more.0 _ s.1;
      }),
)
ended from_tells to_tells path listed from opened to begun after (Moved (Some read)) file first then s = (
  kept_along to_tells to begun after first then,
  record {
    bytes = s.0;
    entry = s.2;
    differs = inl (λ e. other_size (length s.0) listed.size s.1 (sym (ap (λ (r : Entry). r.size) s.2) ∙ e));
    source = λ t. let more = s.3 t in
        (more.0, has_bytes path from opened.reading.rest (s.0 ++ more.0) (file t) more.1, λ le. too_long (length s.0) listed.size _ s.1 le);
  },
)
