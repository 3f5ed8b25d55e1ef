-- What was taken and answered so far is the front of what the whole feed gives.
use Rattle.std.proofs.Common.{◌≡◌, ℕ, inl, inr, List, [], ◌∷◌, ◌++◌, refl, ap, sym, ◌∙◌, subst, append_assoc, append-nil, Option, Some, None}
use Rattle.std.proofs.lemmas.Grind.{flat_map-append}
use Rattle.px_io.specs.Flows.{IsSpent}
use Rattle.px_reader.specs.Lines.{lines_of}
use Rattle.px_reader.proofs.LineCuts.{lines_whole}
use Rattle.px_feed.specs.declared.ending.Ending.TheVariants.{End, Fault}
use Rattle.px_feed.specs.declared.line.FeedFault.{FeedFault}
use Rattle.px_feed.specs.declared.line.OutLine.{OutLine}
use Rattle.px_feed.specs.declared.status.Status.{Status}
use Rattle.px_feed.specs.Items.{Item, Stop, AtEnd, AtFault, HasItems, Gives}
use Rattle.px_feed.specs.Joining.{Joined}
use Rattle.px_feed.specs.Lines.{line_text}
use Rattle.px_feed.specs.Outputs.{AreLines, Out, lines_for, history_behind, lines_at, text_of, status_of}
use Rattle.px_feed.specs.Progress.{Progress}
use Rattle.px_feed.specs.Taking.{HasTaken, Ends}
use Rattle.px_feed.proofs.Replies.{asks-joined, lines-joined}
use Rattle.px_feed.proofs.Total.{gives-some, asks-some, out-of}

-- nothing is left of a source that is spent
spent_rest : (left : Option (List ℕ)) (rest : List ℕ) → IsSpent left → left ≡ Some rest → rest ≡ []
spent_rest None rest spent e = absurd (cc)
spent_rest (Some xs) rest spent e = let same : Some rest ≡ Some [] = sym e ∙ spent in cc

-- the items of bytes that were joined go on, whatever comes behind the bytes
joined_on : (document : List ℕ) (number size : ℕ) (kept : List ℕ) (count : ℕ) (bytes rest : List ℕ) (given : List Item) → Joined document number size kept count bytes given →
    (more : List Item) × (stop : Stop) × HasItems (bytes ++ rest) (given ++ more) stop
joined_on document number size kept count bytes rest given j =
    let s = j.cut.standing in
    let tail = j.begun ++ rest in
    let (more, stop, g) = gives-some s.before (lines_of s.inside ++ lines_of tail) in
    let whole : Gives [] (s.before ++ (lines_of s.inside ++ lines_of tail)) (given ++ more) stop = s.stands.leads (lines_of s.inside ++ lines_of tail) more stop g in
    let same : lines_of (bytes ++ rest) ≡ s.before ++ (lines_of s.inside ++ lines_of tail) =
    ap (λ bs. lines_of (bs ++ rest)) j.bytes_are ∙ ap lines_of (append_assoc j.ended j.begun rest) ∙ lines_whole j.ended tail j.whole
    ∙ ap (λ ls. ls ++ lines_of tail) s.lines_are ∙ append_assoc s.before (lines_of s.inside) (lines_of tail) in
    (more, stop, subst (λ ls. Gives [] ls (given ++ more) stop) (sym same) whole)

-- the items taken so far begin those of all bytes
pub begins-items : (items : Progress) (left : Option (List ℕ)) (bytes rest : List ℕ) (given : List Item) → HasTaken items left bytes given → left ≡ Some rest →
    (more : List Item) × (stop : Stop) × HasItems (bytes ++ rest) (given ++ more) stop
begins-items items left bytes rest given (inl far) e =
    let (more, stop, has) = joined_on items.document items.lines items.size items.kept items.begun far.done (items.unread ++ rest) given far.joined in
    let same : bytes ++ rest ≡ far.done ++ (items.unread ++ rest) = ap (λ bs. bs ++ rest) far.bytes_are ∙ append_assoc far.done items.unread rest in
    (more, stop, subst (λ bs. HasItems bs (given ++ more) stop) (sym same) has)
begins-items items left bytes rest given (inr (ended, spent, has)) e =
    let same : bytes ++ rest ≡ bytes = ap (λ bs. bytes ++ bs) (spent_rest left rest spent e) ∙ append-nil bytes in
    ([], AtEnd, subst (λ bs. HasItems bs (given ++ []) AtEnd) (sym same) (subst (λ its. HasItems bytes its AtEnd) (sym (append-nil given)) has))

-- some output of the bytes begins with the text of these lines
abbrev pub BeginsOutput : (bytes : List ℕ) → List OutLine → Type 0
BeginsOutput bytes lines = (text more : List ℕ) × (status : Status) × Out bytes text status × (text ≡ text_of lines ++ more)

-- the lines of the first items begin the output
output_behind : (bytes : List ℕ) (given behind : List Item) (lines : List OutLine) (stop : Stop) → HasItems bytes (given ++ behind) stop → AreLines given lines → BeginsOutput bytes lines
output_behind bytes given behind lines stop has are =
    let (later, asked) = asks-some behind in
    let all = lines_for [] (are.asks ++ later) in
    let rest = lines_for (history_behind [] are.asks) later in
    let same : all ≡ lines ++ rest = lines-joined [] are.asks later ∙ ap (λ ls. ls ++ rest) (sym are.lines_are) in
    let joined : AreLines (given ++ behind) all = record { asks = are.asks ++ later; asked = asks-joined given behind are.asks later are.asked asked; lines_are = refl } in
    let begins : text_of (all ++ lines_at stop) ≡ text_of lines ++ text_of (rest ++ lines_at stop) =
    ap (λ ls. text_of (ls ++ lines_at stop)) same ∙ ap text_of (append_assoc lines rest (lines_at stop)) ∙ flat_map-append line_text lines (rest ++ lines_at stop) in
    (text_of (all ++ lines_at stop), text_of (rest ++ lines_at stop), status_of (all ++ lines_at stop), out-of bytes (given ++ behind) all stop has joined, begins)

-- what was answered begins the output, where items were taken that wait for their answers
pub begins-output-waiting : (items : Progress) (left : Option (List ℕ)) (bytes rest : List ℕ) (given waiting : List Item) (lines : List OutLine) →
    HasTaken items left bytes (given ++ waiting) → AreLines given lines → left ≡ Some rest →
    (text more : List ℕ) × (status : Status) × Out (bytes ++ rest) text status × (text ≡ text_of lines ++ more)
begins-output-waiting items left bytes rest given waiting lines taken are e =
    let (more, stop, has) = begins-items items left bytes rest (given ++ waiting) taken e in
    output_behind (bytes ++ rest) given (waiting ++ more) lines stop (subst (λ its. HasItems (bytes ++ rest) its stop) (append_assoc given waiting more) has) are

-- the output where a feed has ended
pub out-at-end : (left : Option (List ℕ)) (bytes rest : List ℕ) (given : List Item) (lines : List OutLine) → Ends End left bytes given → AreLines given lines → left ≡ Some rest →
    Out (bytes ++ rest) (text_of (lines ++ lines_at AtEnd)) (status_of (lines ++ lines_at AtEnd))
out-at-end left bytes rest given lines (spent, has) are e =
    let same : bytes ++ rest ≡ bytes = ap (λ bs. bytes ++ bs) (spent_rest left rest spent e) ∙ append-nil bytes in
    out-of (bytes ++ rest) given lines AtEnd (subst (λ bs. HasItems bs given AtEnd) (sym same) has) are

-- the output where a line of a feed has a fault
pub out-at-fault : (fault : FeedFault) (left : Option (List ℕ)) (bytes rest : List ℕ) (given : List Item) (lines : List OutLine) → Ends (Fault fault) left bytes given →
    AreLines given lines → left ≡ Some rest →
    Out (bytes ++ rest) (text_of (lines ++ lines_at (AtFault fault.line fault.kind))) (status_of (lines ++ lines_at (AtFault fault.line fault.kind)))
out-at-fault fault left bytes rest given lines (inl always) are e = out-of (bytes ++ rest) given lines (AtFault fault.line fault.kind) (always rest) are
out-at-fault fault left bytes rest given lines (inr (spent, has)) are e =
    let same : bytes ++ rest ≡ bytes = ap (λ bs. bytes ++ bs) (spent_rest left rest spent e) ∙ append-nil bytes in
    out-of (bytes ++ rest) given lines (AtFault fault.line fault.kind) (subst (λ bs. HasItems bs given (AtFault fault.line fault.kind)) (sym same) has) are
