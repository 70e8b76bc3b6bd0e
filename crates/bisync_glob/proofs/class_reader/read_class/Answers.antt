use Rattle.std.proofs.Common.{◌≡◌, ◌≢◌, ◌⊎◌, inl, inr, ◌+◌, ◌-◌, ◌∷◌, if◌then◌else◌, [], List, ℕ, Bool, true, false, length, take, drop, sym, ◌∙◌, refl}
use Rattle.std.proofs.lemmas.List.{take_rest}
use Rattle.bisync_glob.specs.declared.classes.Item.{Item}
use Rattle.bisync_glob.specs.Spelling.{begins}
use Rattle.bisync_glob.specs.Reading.{ItemsRead, has_mark, no_items}
use Rattle.bisync_glob.proofs.ClassLaws.{class_ok, class_none}
use Rattle.bisync_glob.proofs.class_reader.read_class.Goals as goal
use Rattle.bisync_glob.proofs.class_reader.read_class.Goals.{then-negated, else-negated, then-no_items-via-then-no_items, then-no_items-via-else-no_items+then-not-begins-2}

marks_at : (text : List ℕ) (b : Bool) → b ≡ has_mark (take (length text - 1) (drop 1 text)) → b ≡ has_mark (drop 1 text)
marks_at text b e = rw (take_rest text 1) at e

begins_at : (x n : ℕ) (text : List ℕ) (b v : Bool) → b ≡ begins x (take (length text - n) (drop n text)) → b ≡ v → begins x (drop n text) ≡ v
begins_at x n text b v e h = sym (rw (take_rest text n) at e) ∙ h

none_from : (xs : List Item) → no_items xs ≡ true → xs ≡ []
none_from [] h = refl
none_from (x ∷ xs) h = absurd (cc)

some_from : (xs : List Item) → no_items xs ≡ false → xs ≢ []
some_from [] h e = (let k : true ≡ false = h in cc)
some_from (x ∷ xs) h e = (cc)

pub returns-then-no_items : goal.returns-then-no_items
returns-then-no_items c =
    let marks : c.has_mark-negated.result ≡ has_mark (drop 1 c.args.text.now) = marks_at c.args.text.now c.has_mark-negated.result c.has_mark-negated.ensures in
    let start : c.if-negated.start ≡ (if c.has_mark-negated.result then 2 else 1) = elim c.if-negated.branch [ then-negated w ↦ w.start-is ∙ rw w.if-negated.true refl | else-negated w ↦ w.start-is ∙ rw w.if-negated.false refl ] in
    let items : ItemsRead c.in_ok-items.items.items c.in_ok-items.len (drop c.if-negated.start c.args.text.now) = rw (take_rest c.args.text.now c.if-negated.start) at (c.in_ok-items.ensures) in
    let why : (c.in_ok-items.items.items ≡ []) ⊎ (begins 93 (drop (c.if-negated.start + c.in_ok-items.len) c.args.text.now) ≡ false) = elim c.then-no_items.branch [
      | then-no_items-via-then-no_items w ↦ inl (sym c.deref.ensures.value ∙ none_from c.deref.result.now (sym c.no_items.ensures ∙ w.if-no_items.true))
      | then-no_items-via-else-no_items+then-not-begins-2 w ↦ inr (begins_at 93 (c.if-negated.start + c.in_ok-items.len) c.args.text.now w.begins-else-no_items.result false w.begins-else-no_items.ensures w.if-not-begins-2.true)
    ] in
    class_none c.in_ok-items.items.items c.has_mark-negated.result c.if-negated.start c.in_ok-items.len c.args.text.now marks start items why

pub returns : goal.returns
returns c =
    let marks : c.has_mark-negated.result ≡ has_mark (drop 1 c.args.text.now) = marks_at c.args.text.now c.has_mark-negated.result c.has_mark-negated.ensures in
    let start : c.if-negated.start ≡ (if c.has_mark-negated.result then 2 else 1) = elim c.if-negated.branch [ then-negated w ↦ w.start-is ∙ rw w.if-negated.true refl | else-negated w ↦ w.start-is ∙ rw w.if-negated.false refl ] in
    let items : ItemsRead c.in_ok-items.items.items c.in_ok-items.len (drop c.if-negated.start c.args.text.now) = rw (take_rest c.args.text.now c.if-negated.start) at (c.in_ok-items.ensures) in
    let close : begins 93 (drop (c.if-negated.start + c.in_ok-items.len) c.args.text.now) ≡ true = begins_at 93 (c.if-negated.start + c.in_ok-items.len) c.args.text.now c.begins-else-no_items.result true c.begins-else-no_items.ensures c.if-not-begins-2.false in
    let some : c.in_ok-items.items.items ≢ [] = λ h. some_from c.deref.result.now (sym c.no_items.ensures ∙ c.if-no_items.false) (c.deref.ensures.value ∙ h) in
    class_ok c.new.result c.if-negated.start c.in_ok-items.len c.args.text.now (c.new.ensures.negated ∙ marks) (sym c.begins.ensures ∙ c.if-not-begins.false) (rw c.new.ensures.negated start)
    (λ h. some (sym c.new.ensures.items ∙ h)) (rw c.new.ensures.items items) close
