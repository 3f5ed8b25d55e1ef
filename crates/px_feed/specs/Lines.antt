-- The texts of the lines that are written.
use Rattle.std.specs.Prelude.{ℕ, List, [], ◌∷◌, ◌++◌, flat_map, codes, decimal, Bool, true, false}
use Rattle.px_xpath.specs.declared.fault.FilterFault.{FilterFault}
use Rattle.px_xpath.specs.declared.fault.FilterFault.TheVariants.{NotAFilter, TooLong, TooNested, NumberLong}
use Rattle.px_reader.specs.declared.fault.DocKind.{DocKind}
use Rattle.px_reader.specs.declared.fault.DocKind.TheVariants.{NotHere, NotUtf8, LineLong, TooDeep, TooManyAttributes, TooBig, Truncated}
use Rattle.px_feed.specs.declared.line.FeedKind.{FeedKind}
use Rattle.px_feed.specs.declared.line.FeedKind.TheVariants.{Doc, FeedLong}
use Rattle.px_feed.specs.declared.line.OutLine.{OutLine}
use Rattle.px_feed.specs.declared.line.OutLine.TheVariants.{Added, Dropped, Replaced, Matched, NoFilter, AddTooLarge, AddNoVersions, DropUnknown, DropNoVersions, ReplaceUnknown, ReplaceTooLarge, ReplaceNoVersions, Faulty, Yes, No}

-- the fault of a filter
abbrev pub filter_fault : FilterFault → List ℕ
filter_fault (NotAFilter at) = codes "not-a-filter " ++ decimal at
filter_fault TooLong = codes "too-long"
filter_fault (TooNested at) = codes "too-nested " ++ decimal at
filter_fault (NumberLong at) = codes "number-long " ++ decimal at

-- the fault of a line of a document
abbrev pub doc_kind : DocKind → List ℕ
doc_kind NotHere = codes "not-here"
doc_kind NotUtf8 = codes "not-utf8"
doc_kind LineLong = codes "line-long"
doc_kind TooDeep = codes "too-deep"
doc_kind TooManyAttributes = codes "too-many-attributes"
doc_kind TooBig = codes "too-big"
doc_kind Truncated = codes "truncated"

-- the fault of a line of a feed
abbrev pub feed_kind : FeedKind → List ℕ
feed_kind (Doc kind) = doc_kind kind
feed_kind FeedLong = codes "feed-long"

-- each id with a space before it
abbrev pub id_words : List ℕ → List ℕ
id_words = flat_map (λ id. codes " " ++ decimal id)

-- a line without its line feed
abbrev pub words : OutLine → List ℕ
words (Added id) = codes "+" ++ decimal id
words (Dropped id version) = codes "~" ++ decimal id ++ codes " " ++ decimal version
words (Replaced id version) = codes "^" ++ decimal id ++ codes " " ++ decimal version
words (Matched version ids) = decimal version ++ codes ":" ++ id_words ids
words (NoFilter fault) = codes "! filter " ++ filter_fault fault
words (AddTooLarge live) = codes "! add too-large " ++ decimal live
words AddNoVersions = codes "! add no-versions"
words DropUnknown = codes "! drop unknown"
words DropNoVersions = codes "! drop no-versions"
words ReplaceUnknown = codes "! replace unknown"
words (ReplaceTooLarge live) = codes "! replace too-large " ++ decimal live
words ReplaceNoVersions = codes "! replace no-versions"
words (Faulty fault) = codes "! line " ++ decimal fault.line ++ codes " " ++ feed_kind fault.kind
words Yes = codes "yes"
words No = codes "no"

-- a line with its line feed
abbrev pub line_text : OutLine → List ℕ
line_text line = words line ++ 10 ∷ []

-- whether the line begins with an exclamation mark
abbrev pub is_refusal : OutLine → Bool
is_refusal (Added id) = false
is_refusal (Dropped id version) = false
is_refusal (Replaced id version) = false
is_refusal (Matched version ids) = false
is_refusal Yes = false
is_refusal No = false
is_refusal _ = true
