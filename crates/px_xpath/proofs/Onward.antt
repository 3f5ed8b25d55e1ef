-- What goes on behind what went on before, and how much of it is left.
use Rattle.std.proofs.Common.{ℕ, ◌+◌, List, length, Result, Ok, Err, arith}
use Rattle.px_xpath.specs.declared.filter.Axis.{Axis}
use Rattle.px_xpath.specs.declared.filter.Step.{Step}
use Rattle.px_xpath.specs.declared.filter.Cond.{Cond}
use Rattle.px_xpath.specs.declared.descent.Stop.{Stop}
use Rattle.px_xpath.specs.declared.descent.Members.{Members}
use Rattle.px_xpath.specs.declared.descent.Members.TheVariants as members
use Rattle.px_xpath.specs.declared.descent.Route.{Route}
use Rattle.px_xpath.specs.declared.descent.Route.TheVariants as route
use Rattle.px_xpath.specs.Tokens.{Placed}
use Rattle.px_xpath.specs.Reads.{Rest, rest_of, GoesOn, StepsOn}

-- what is left of the tokens, and one more, while there is a member to come
abbrev pub members_left : Members → ℕ
members_left (members.More all behind) = length behind.now + 1
members_left (members.Whole all rest) = 0

abbrev pub steps_left : Route → ℕ
steps_left (route.More all next behind) = length behind.now + 1
steps_left (route.Whole all rest) = 0

pub goes_on : (Reads : List Cond → List Placed → Result (List Cond × Rest) Stop → Type 0) (done all : List Cond) (ts : List Placed) (behind : Rest) (result : Result Members Stop) →
    GoesOn Reads done ts (Ok (members.More all behind)) → GoesOn Reads all (rest_of behind) result → GoesOn Reads done ts result
goes_on Reads done all ts behind (Ok (members.More more rest)) (l, f) (m, g) = (omega arith, λ r h. f r (g r h))
goes_on Reads done all ts behind (Ok (members.Whole more rest)) (l, f) g = f (Ok (more, rest)) g
goes_on Reads done all ts behind (Err stop) (l, f) g = f (Err stop) g

pub steps_on : (spare : ℕ) (done all : List Step) (axis next : Axis) (ts : List Placed) (behind : Rest) (result : Result Route Stop) →
    StepsOn spare done axis ts (Ok (route.More all next behind)) → StepsOn spare all next (rest_of behind) result → StepsOn spare done axis ts result
steps_on spare done all axis next ts behind (Ok (route.More more after rest)) (l, f) (m, g) = (omega arith, λ r h. f r (g r h))
steps_on spare done all axis next ts behind (Ok (route.Whole more rest)) (l, f) g = f (Ok (more, rest)) g
steps_on spare done all axis next ts behind (Err stop) (l, f) g = f (Err stop) g
