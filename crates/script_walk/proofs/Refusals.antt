-- A script inside the grammar isn't refused: what a refusal says of its bytes contradicts how they are read.
use Rattle.std.proofs.Common.{◌≡◌, ◌⊎◌, ℕ, ◌+◌, ◌≤◌, List, [], ◌∷◌, ◌++◌, length, take, Option, Some, None, refl, sym, ap, subst, ◌∙◌, inl, inr, arith, append_assoc, append-nil, length-append}
use Rattle.std.specs.List.{All}
use Rattle.std.specs.Io.KnownBytes.{Consumes}
use Rattle.std.proofs.lemmas.List.Elements.{All-nil, All-cons, All-head, All-tail}
use Rattle.script_lines.specs.Lines.{asks}
use Rattle.script_lines.specs.Sayings.{frame_limit}
use Rattle.script_walk.specs.declared.end.End.TheVariants.{BadLine, TooMuch}
use Rattle.script_walk.specs.Framing.{Item, IsItem, IsLine, IsPartial, IsShortOfPayload, Wants, BeginsOff, EndsOff, bytes_of, has_feed, line_limit, script_limit, read_limit}
use Rattle.script_walk.specs.Covering.{IsUnended, Covers}
use Rattle.script_walk.specs.Laws.{IsReading, IsScript, BytesHaveAReading, ReadingsAreOne, PartsAreNotOff, ScriptsAreNotRefused, LittleIsReadAhead}
use Rattle.script_walk.specs.Reading.{bare_item}
use Rattle.script_walk.proofs.Keeping.{IsLine-nil, Wants-small, one_size, off_more}
use Rattle.script_walk.proofs.Framings.{lines_of}
use Rattle.script_walk.proofs.Readings.{one_reading, both, one_first_feed, has_feed-line, feed_within}

pub bytes_have_a_reading : BytesHaveAReading
bytes_have_a_reading bytes =
    let found = lines_of bytes in
    (found.items, found.rest, record { whole = found.whole; spelled = found.spelled; ends = found.ends })

pub readings_are_one : ReadingsAreOne
readings_are_one bytes first second rest other p q =
    one_reading first second rest other p.whole q.whole p.ends q.ends (sym p.spelled ∙ q.spelled)

-- bytes that a line feed stands in aren't off the grammar where the line before it is read
short_not_off : (bytes : List ℕ) → IsShortOfPayload bytes → BeginsOff bytes → ⊥
short_not_off bytes short (inl unread) =
    let same = one_first_feed short.line unread.line short.payload unread.later short.is_line.no_feed unread.is_line.no_feed (sym short.spelled ∙ unread.spelled) in
    unread.unread short.wanted.order (subst (λ xs. asks xs short.wanted.order) same.0 short.wanted.asked)
short_not_off bytes short (inr long) =
    both (has_feed (take (line_limit + 1) bytes)) (ap (λ xs. has_feed (take (line_limit + 1) xs)) short.spelled ∙ feed_within line_limit short.line short.payload short.is_line.short) long.no_feed

pub parts_are_not_off : PartsAreNotOff
parts_are_not_off bytes (inl line) (inl unread) = both (has_feed bytes) (ap has_feed unread.spelled ∙ has_feed-line unread.line unread.later) line.no_feed
parts_are_not_off bytes (inl line) (inr long) = (let short : length bytes ≤ line_limit = line.short in let more : line_limit + 1 ≤ length bytes = long.long in omega arith)
parts_are_not_off bytes (inr short) off = short_not_off bytes short off

-- an item not yet whole is short
short_part : (bytes : List ℕ) → IsPartial bytes → length bytes ≤ line_limit + frame_limit
short_part bytes (inl line) = (let short : length bytes ≤ line_limit = line.short in omega arith)
short_part bytes (inr short) =
    let line : length short.line ≤ line_limit = short.is_line.short in
    let size : short.size ≤ frame_limit = Wants-small short.line short.size short.wanted in
    omega (arith, short.missing, ap length short.spelled, length-append short.line (10 ∷ short.payload))

pub little_is_read_ahead : LittleIsReadAhead
little_is_read_ahead taken read =
    let part : length read.cut.rest ≤ line_limit + frame_limit = short_part read.cut.rest read.cut.partial in
    let last : length read.last ≤ read_limit = read.one_read in (
      read.cut.rest ++ read.last,
      read.parts ∙ ap (λ xs. xs ++ read.last) read.cut.spelled ∙ append_assoc (bytes_of read.lines) read.cut.rest read.last,
      omega (arith, part, last, length-append read.cut.rest read.last),
    )

all_parts : (front behind : List Item) → All IsItem (front ++ behind) → All IsItem front × All IsItem behind
all_parts [] behind all = (All-nil IsItem, all)
all_parts (item ∷ front) behind all =
    let parts = all_parts front behind (All-tail IsItem item (front ++ behind) all) in
    (All-cons IsItem item front (All-head IsItem item (front ++ behind) all) parts.0, parts.1)

-- ---- how a script inside the grammar is read

record WholeReading (bytes : List ℕ) : Type 0 where
  items : List Item
  rest : List ℕ
  reading : IsReading bytes items rest
  partial : IsPartial rest
  last : ¬ EndsOff rest

-- nothing is no last line, and no item is short of its raw bytes in it
nothing_ends : EndsOff [] → ⊥
nothing_ends (inl unread) = unread.some refl
nothing_ends (inr (inl without)) = without.some refl
nothing_ends (inr (inr short)) = both (has_feed []) (ap has_feed short.spelled ∙ has_feed-line short.line short.payload) refl

-- a last line that is read, and wants no raw bytes
last_ends : (line : List ℕ) → IsLine line → Wants line 0 → EndsOff line → ⊥
last_ends line is wants (inl unread) = unread.unread wants.order wants.asked
last_ends line is wants (inr (inl without)) = (let none : without.size ≡ 0 = one_size line without.size 0 without.wanted wants in omega (arith, without.missing, none))
last_ends line is wants (inr (inr short)) = both (has_feed line) (ap has_feed short.spelled ∙ has_feed-line short.line short.payload) is.no_feed

whole_reading : (bytes : List ℕ) → (script : IsScript bytes) → WholeReading bytes
whole_reading bytes script = whole_reading_by bytes script script.whole
  where
    whole_reading_by : (bytes : List ℕ) → (script : IsScript bytes) → (bytes ≡ bytes_of script.items) ⊎ IsUnended bytes script.items → WholeReading bytes
    whole_reading_by bytes script (inl all) = record {
      items = script.items;
      rest = [];
      reading = record { whole = script.lines; spelled = all ∙ sym (append-nil (bytes_of script.items)); ends = inl (inl (IsLine-nil [] refl)) };
      partial = inl (IsLine-nil [] refl);
      last = nothing_ends;
    }
    whole_reading_by bytes script (inr unended) =
        let item = bare_item unended.last in
        let lines : All IsItem (unended.front ++ item ∷ []) = subst (All IsItem) unended.listed script.lines in
        let is_line : IsLine unended.last = (All-head IsItem item [] (all_parts unended.front (item ∷ []) lines).1).line in
        record {
          items = unended.front;
          rest = unended.last;
          reading = record { whole = (all_parts unended.front (item ∷ []) lines).0; spelled = unended.spelled; ends = inl (inl is_line) };
          partial = inl is_line;
          last = last_ends unended.last is_line unended.no_payload;
        }

-- ---- what a refusal would say

-- a line off the grammar, with more behind it
no_off : (bytes taken left : List ℕ) (items : List Item) (rest : List ℕ) → IsScript bytes → bytes ≡ taken ++ left → All IsItem items → taken ≡ bytes_of items ++ rest → BeginsOff rest → ⊥
no_off bytes taken left items rest script all whole spelled off =
    let found = whole_reading bytes script in
    let more = off_more rest left off in
    let other : IsReading bytes items (rest ++ left) = record {
      whole = whole;
      spelled = all ∙ ap (λ xs. xs ++ left) spelled ∙ append_assoc (bytes_of items) rest left;
      ends = inr more;
    } in
    let same = readings_are_one bytes items found.items (rest ++ left) found.rest other found.reading in
    parts_are_not_off (rest ++ left) (subst IsPartial (sym same.1) found.partial) more

-- what stands there is no whole item
ends_partial : (rest : List ℕ) → EndsOff rest → IsPartial rest
ends_partial rest (inl unread) = inl unread.is_line
ends_partial rest (inr (inl without)) = inl without.is_line
ends_partial rest (inr (inr short)) = inr short

-- a last line off the grammar
no_off_at_end : (bytes : List ℕ) (items : List Item) (rest : List ℕ) → IsScript bytes → All IsItem items → bytes ≡ bytes_of items ++ rest → EndsOff rest → ⊥
no_off_at_end bytes items rest script whole spelled off =
    let found = whole_reading bytes script in
    let other : IsReading bytes items rest = record {
      whole = whole;
      spelled = spelled;
      ends = inl (ends_partial rest off);
    } in
    let same = readings_are_one bytes items found.items rest found.rest other found.reading in
    found.last (subst EndsOff same.1 off)

not_bad : (bytes taken : List ℕ) (left : Option (List ℕ)) (items : List Item) (line : ℕ) → IsScript bytes → Consumes (Some bytes) left taken → All IsItem items → Covers (BadLine line) taken left items → ⊥
not_bad bytes taken None items line script consumes whole covers = consumes
not_bad bytes taken (Some left) items line script consumes whole covers = not_bad_by covers.0.off
  where
    not_bad_by : BeginsOff covers.0.rest ⊎ (EndsOff covers.0.rest × (left ≡ [])) → ⊥
    not_bad_by (inl off) = no_off bytes taken left items covers.0.rest script consumes whole covers.0.spelled off
    not_bad_by (inr (off, end)) =
        no_off_at_end bytes items covers.0.rest script whole
        (consumes ∙ ap (λ xs. taken ++ xs) end ∙ append-nil taken ∙ covers.0.spelled) off

not_too_much : (bytes taken : List ℕ) (left : Option (List ℕ)) (items : List Item) → IsScript bytes → Consumes (Some bytes) left taken → Covers TooMuch taken left items → ⊥
not_too_much bytes taken None items script consumes covers = consumes
not_too_much bytes taken (Some left) items script consumes covers =
    (let short : length bytes ≤ script_limit = script.short in
    let long : length taken ≡ script_limit + 1 = covers.1 in
    omega (arith, ap length consumes, length-append taken left))

pub scripts_are_not_refused : ScriptsAreNotRefused
scripts_are_not_refused bytes taken left items line script consumes whole =
    (not_bad bytes taken left items line script consumes whole, not_too_much bytes taken left items script consumes)
