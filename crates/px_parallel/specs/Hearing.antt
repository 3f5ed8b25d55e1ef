-- Passes that answer a feed, and who hears the lines.
use Rattle.std.specs.Prelude.{ℕ, [], List}
use Rattle.px_feed.specs.declared.line.OutLine.{OutLine}
use Rattle.px_feed.specs.Outputs.{Ask, lines_for}
use Rattle.px_hub.specs.Passes.{PassView}
use Rattle.px_parallel.specs.Leading.{HaveAnswered}

-- This was asked of the passes and answered, and the lines were heard.
abbrev pub HaveHeard : {L : Type 0} → (passes : ℕ) → (heard : L → List OutLine → Type 0) → List PassView × L → List Ask → Type 0
HaveHeard passes heard both asks = HaveAnswered passes both.0 asks × heard both.1 (lines_for [] asks)

-- something was asked of a state and answered
abbrev pub WereAsked : {S : Type 0} → (answered : S → List Ask → Type 0) → S → Type 0
WereAsked answered state = (asks : List Ask) × answered state asks
