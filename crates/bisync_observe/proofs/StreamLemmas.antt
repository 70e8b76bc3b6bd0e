-- What holds between the pieces of a file.
use Rattle.std.proofs.Common.{◌≡◌, ◌≢◌, ◌<◌, ◌≤◌, ◌++◌, ℕ, Bool, true, IsTrue, List, length, take, None, Option, refl, sym, ap, ◌∙◌, arith}
use Rattle.std.proofs.lemmas.Grind.{common_steps}
use Rattle.std.proofs.lemmas.List.{append_assoc}
use Rattle.bisync_tree.specs.declared.entries.Entry.{Entry}
use Rattle.bisync_device.specs.Faults.{lowered}
use Rattle.bisync_device.specs.Reading.{Reading, Takes}
use Rattle.bisync_device.specs.Remote.{RemoteState, IsCall, KeepsTree, KeepsWriting}
use Rattle.bisync_observe.specs.FileReading.{OnlyReads}
use Rattle.bisync_observe.specs.Tally.{Tallies}
use Rattle.bisync_observe.specs.declared.tallies.Tally.{Tally}

pub record Streaming (tells : Bool) (listed : Entry) (start now : RemoteState) (tally : Tally) : Type 0 where
  pub bytes : List ℕ
  pub tallied : Tallies tally bytes
  pub within : length bytes ≤ listed.size
  pub source : IsTrue tells → start.reading.rest ≡ bytes ++ now.reading.rest
  pub opened : now.reading.opened ≡ true
  pub kept : OnlyReads tells start now
  pub faults : now.faults ≡ start.faults

pub kept_none : (tells : Bool) (s : RemoteState) → OnlyReads tells s s
kept_none tells s = record { tree = λ t. record { tree = refl; changes = refl; folders = refl }; writing = record { begun = refl; part = λ t. refl }; window = refl; left = λ h. h }

stays_none : (a b c : Option ℕ) → (a ≡ None → b ≡ None) → c ≡ lowered b → a ≡ None → c ≡ None
stays_none a b c ab bc none = bc ∙ ap lowered (ab none)

kept_tree : (tells : Bool) (a b c : RemoteState) → KeepsTree tells a b → KeepsTree tells b c → KeepsTree tells a c
kept_tree tells a b c k l t = let u = k t in let v = l t in record { tree = v.tree ∙ u.tree; changes = v.changes ∙ u.changes; folders = v.folders ∙ u.folders }

kept_writing : (tells : Bool) (a b c : RemoteState) → KeepsWriting tells a b → KeepsWriting tells b c → KeepsWriting tells a c
kept_writing tells a b c k l = record { begun = l.begun ∙ k.begun; part = λ t. l.part t ∙ k.part t }

-- one call more
pub kept_call : (tells : Bool) (a b c : RemoteState) (failed : Bool) → OnlyReads tells a b → IsCall failed b c → KeepsTree tells b c → KeepsWriting tells b c → OnlyReads tells a c
kept_call tells a b c failed k call tree writing = record {
  tree = kept_tree tells a b c k.tree tree;
  writing = kept_writing tells a b c k.writing writing;
  window = call.window ∙ k.window;
  left = stays_none a.left b.left c.left k.left call.counted.lowered;
}

pub kept_more : (tells : Bool) (a b c : RemoteState) → OnlyReads tells a b → OnlyReads tells b c → OnlyReads tells a c
kept_more tells a b c k l = record {
  tree = kept_tree tells a b c k.tree l.tree;
  writing = kept_writing tells a b c k.writing l.writing;
  window = l.window ∙ k.window;
  left = λ none. l.left (k.left none);
}

-- what there was to read, by what was read before this piece and with it
pub longer : (tells : Bool) (whole : List ℕ) (now after : Reading) (bytes buffer : List ℕ) (count : ℕ) → (IsTrue tells → whole ≡ bytes ++ now.rest) → Takes tells now after count buffer
    → IsTrue tells → whole ≡ (bytes ++ take count buffer) ++ after.rest
longer tells whole now after bytes buffer count source takes t =
    source t ∙ ap (λ l. bytes ++ l) (takes.bytes t) ∙ sym (append_assoc bytes (take count buffer) after.rest)

-- what is longer than listed hasn't the listed size
pub too_long : (rest bytes more : List ℕ) (size : ℕ) → rest ≡ bytes ++ more → size < length bytes → length rest ≢ size
too_long rest bytes more size is less e = grind (arith, common_steps)

pub other_size : (size listed : ℕ) {read : ℕ} → listed < size → read ≡ size → read ≡ listed → ⊥
other_size size listed less is same = omega arith
