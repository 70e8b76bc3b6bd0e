-- What several calls put, one after the other.
use Rattle.std.proofs.Common.{◌≡◌, ℕ, Bool, true, false, List, [], ◌++◌, length, take, drop, Result, Ok, Err, OnOk, is_err, refl, sym, ◌∙◌, ap, subst, append_assoc, rules}
use Rattle.std.specs.Result.{IsErrAnd}
use Rattle.std.proofs.Math.Seq.{take-append_seam}
use Rattle.std.proofs.lemmas.List.{append-nil, take-append-drop}
use Rattle.bisync_device.specs.Faults.{HasCause}
use Rattle.bisync_device.specs.Sink.{SinkState, Adds}
use Rattle.bisync_device.specs.declared.faults.Failed.{Failed}
use Rattle.bisync_report.specs.Waiting.{Gives, Puts}

cause_then : (failed : Bool) (a b c : ℕ) → HasCause false a b → HasCause failed b c → HasCause failed a c
cause_then failed a b c first second = subst (λ (x : ℕ). HasCause failed x c) (first.kept refl) second

gives_then : (a b w w1 w2 x y z : List ℕ) → Gives (w ++ a) w1 x y → Gives (w1 ++ b) w2 y z → Gives (w ++ (a ++ b)) w2 x z
gives_then a b w w1 w2 x y z p q = record {
  given = p.given ++ q.given;
  added = q.added ∙ ap (λ (v : List ℕ). v ++ q.given) p.added ∙ append_assoc x p.given q.given;
  whole = sym (append_assoc w a b) ∙ ap (λ (v : List ℕ). v ++ b) p.whole ∙ append_assoc p.given w1 b
      ∙ ap (λ (v : List ℕ). p.given ++ v) q.whole ∙ sym (append_assoc p.given q.given w2);
}

gives_more : (a b w left x y : List ℕ) → Gives (w ++ a) left x y → Gives (w ++ (a ++ b)) (left ++ b) x y
gives_more a b w left x y p = record {
  given = p.given;
  added = p.added;
  whole = sym (append_assoc w a b) ∙ ap (λ (v : List ℕ). v ++ b) p.whole ∙ append_assoc p.given left b;
}

-- nothing is put
pub puts_nothing : (t : Bool) (w : List ℕ) (s : SinkState) → Puts t [] w s w s (Ok tt)
puts_nothing t w s = record {
  cause = record { later = search rules; rose = λ h. cc; kept = λ _. refl };
  given = λ _. record { given = []; added = sym (append-nil s.bytes); whole = append-nil w };
}

-- what waits grows
pub puts_held : (t : Bool) (a w w1 : List ℕ) (s : SinkState) → w1 ≡ w ++ a → Puts t a w s w1 s (Ok tt)
puts_held t a w w1 s e = record {
  cause = record { later = search rules; rose = λ h. cc; kept = λ _. refl };
  given = λ _. record { given = []; added = sym (append-nil s.bytes); whole = sym e };
}

-- one call after another
pub puts_then : (t : Bool) (a b w w1 w2 : List ℕ) (s s1 s2 : SinkState) (r : Result (Unit {0}) Failed)
    → Puts t a w s w1 s1 (Ok tt) → Puts t b w1 s1 w2 s2 r → Puts t (a ++ b) w s w2 s2 r
puts_then t a b w w1 w2 s s1 s2 (Ok _) p q = record {
  cause = cause_then false s.faults s1.faults s2.faults p.cause q.cause;
  given = λ h. gives_then a b w w1 w2 s.bytes s1.bytes s2.bytes (p.given h) (q.given h);
}
puts_then t a b w w1 w2 s s1 s2 (Err _) p q = record {
  cause = cause_then true s.faults s1.faults s2.faults p.cause q.cause;
  given = λ h. ((q.given h).0, gives_then a b w w1 (q.given h).0 s.bytes s1.bytes s2.bytes (p.given h) (q.given h).1);
}

-- a failed call ends all that was still to be put
pub puts_stop : (Q : Failed → Type 0) (t : Bool) (a b w w1 : List ℕ) (s s1 : SinkState) (e : Failed) (r : Result (Unit {0}) Failed)
    → IsErrAnd r Q → Puts t a w s w1 s1 (Err e) → Puts t (a ++ b) w s w1 s1 r
puts_stop Q t a b w w1 s s1 e (Ok _) is p = absurd is
puts_stop Q t a b w w1 s s1 e (Err _) is p = record {
  cause = p.cause;
  given = λ h. ((p.given h).0 ++ b, gives_more a b w (p.given h).0 s.bytes s1.bytes (p.given h).1);
}

-- a later call failed
pub puts_break : (Q : Failed → Type 0) (t : Bool) (all a b rest w w1 w2 : List ℕ) (s s1 s2 : SinkState) (e : Failed) (r : Result (Unit {0}) Failed)
    → IsErrAnd r Q → all ≡ a ++ (b ++ rest) → Puts t a w s w1 s1 (Ok tt) → Puts t b w1 s1 w2 s2 (Err e) → Puts t all w s w2 s2 r
puts_break Q t all a b rest w w1 w2 s s1 s2 e r is whole p q =
    let stopped = puts_stop Q t (a ++ b) rest w w2 s s2 e r is (puts_then t a b w w1 w2 s s1 s2 (Err e) p q) in
    subst (λ (v : List ℕ). Puts t v w s w2 s2 r) (append_assoc a b rest ∙ sym whole) stopped

-- all was given, or a beginning of it
puts_all : (t : Bool) (a w1 : List ℕ) (s s1 : SinkState) (r : Result (Unit {0}) Failed)
    → Puts t a [] s w1 s1 r → OnOk r (w1 ≡ []) → Adds t a s s1 r
puts_all t a w1 s s1 (Ok _) p empty = λ h. let g = p.given h in
    g.added ∙ ap (λ (v : List ℕ). s.bytes ++ v) (sym (g.whole ∙ ap (λ (v : List ℕ). g.given ++ v) empty ∙ append-nil g.given))
puts_all t a w1 s s1 (Err _) p empty = λ h. let g = (p.given h).1 in
    (length g.given, g.added ∙ ap (λ (v : List ℕ). s.bytes ++ v) (sym (ap (take (length g.given)) g.whole ∙ take-append_seam g.given (p.given h).0)))

-- a flush after all was put
pub flushed : (t : Bool) (a w w1 w2 : List ℕ) (s s1 s2 : SinkState) (r : Result (Unit {0}) Failed)
    → w ≡ [] → Puts t a w s w1 s1 (Ok tt) → Puts t [] w1 s1 w2 s2 r → OnOk r (w2 ≡ []) → HasCause (is_err r) s.faults s2.faults × Adds t a s s2 r
flushed t a w w1 w2 s s1 s2 r e p q empty =
    let all = subst (λ (v : List ℕ). Puts t v w s w2 s2 r) (append-nil a) (puts_then t a [] w w1 w2 s s1 s2 r p q) in
    (all.cause, puts_all t a w2 s s2 r (subst (λ (v : List ℕ). Puts t a v s w2 s2 r) e all) empty)

-- a call failed before the flush
pub unflushed : (Q : Failed → Type 0) (t : Bool) (a w w1 : List ℕ) (s s1 : SinkState) (e : Failed) (r : Result (Unit {0}) Failed)
    → IsErrAnd r Q → w ≡ [] → Puts t a w s w1 s1 (Err e) → HasCause (is_err r) s.faults s1.faults × Adds t a s s1 r
unflushed Q t a w w1 s s1 e (Ok _) is empty p = absurd is
unflushed Q t a w w1 s s1 e (Err x) is empty p =
    (p.cause, puts_all t a w1 s s1 (Err x) (subst (λ (v : List ℕ). Puts t a v s w1 s1 (Err x)) empty p) tt)

-- bytes that went straight to the sink, as nothing waited
pub puts_written : (t : Bool) (bytes w : List ℕ) (s s1 : SinkState) (r : Result (Unit {0}) Failed)
    → w ≡ [] → HasCause (is_err r) s.faults s1.faults → Adds t bytes s s1 r → Puts t bytes w s w s1 r
puts_written t bytes w s s1 (Ok _) e cause adds = record {
  cause = cause;
  given = λ h. record { given = bytes; added = adds h; whole = ap (λ (v : List ℕ). v ++ bytes) e ∙ sym (append-nil bytes) ∙ ap (λ (v : List ℕ). bytes ++ v) (sym e) };
}
puts_written t bytes w s s1 (Err _) e cause adds = record {
  cause = cause;
  given = λ h. (drop (adds h).0 bytes, record { given = take (adds h).0 bytes; added = (adds h).1; whole = ap (λ (v : List ℕ). v ++ bytes) e ∙ sym (take-append-drop (adds h).0 bytes) });
}

-- what waited was written in part
pub puts_lost : (Q : Failed → Type 0) (t : Bool) (w w1 : List ℕ) (s s1 : SinkState) (e : Failed) (r : Result (Unit {0}) Failed)
    → IsErrAnd r Q → HasCause true s.faults s1.faults → Adds t w s s1 (Err e) → Puts t [] w s w1 s1 r
puts_lost Q t w w1 s s1 e (Ok _) is cause adds = absurd is
puts_lost Q t w w1 s s1 e (Err _) is cause adds = record {
  cause = cause;
  given = λ h. (drop (adds h).0 w, record { given = take (adds h).0 w; added = (adds h).1; whole = append-nil w ∙ sym (take-append-drop (adds h).0 w) });
}
