use Rattle.std.proofs.Common.{ℕ, ◌<◌, List, length, get_or, Some, None, sym, subst}
use Rattle.px_rule.specs.declared.view.View.{View}
use Rattle.px_rule.specs.Words.{size_of}
use Rattle.px_hub.specs.Banking.{IsStanding, ClaimsGive}
use Rattle.px_hub.proofs.Trying.{stands_set, older, home_standing, home_renewed, home_none}
use Rattle.px_hub.proofs.banks.choose_home.Goals as goal

pub returns-in-Some-clause-home : goal.returns-in-Some-clause-home
returns-in-Some-clause-home g c =
    let E = g.row.L-Entry.Denot in
    let v : View E = c.args.desk.now.view in
    home_standing c.args.shared.now.shape.banks c.args.version v.past.asker v.past.asker_loads c.args.stands.now.items v.stay v.stay c.in-Some.bank c.requires.stands
    (subst (λ l. IsStanding l c.args.version (Some c.in-Some.bank)) c.as_slice.ensures.value c.in-Some.ensures)

pub try_banks-requires-clause-older : goal.try_banks-requires-clause-older
try_banks-requires-clause-older g c =
    let same = c.as_slice-2.ensures.value in
    let none = subst (λ l. IsStanding l c.args.version None) c.as_slice.ensures.value c.in_default.ensures in
    subst (λ (l : List ℕ). (k d : ℕ) → k < length l → get_or l k d < c.args.version) (sym same) (older c.args.stands.now.items c.args.version c.requires.reached none)

pub returns-in-Some-try_banks-clause-stands : goal.returns-in-Some-try_banks-clause-stands
returns-in-Some-try_banks-clause-stands g c =
    let E = g.row.L-Entry.Denot in
    let v : View E = c.args.desk.now.view in
    let w : View E = c.try_banks.new.desk.view in
    stands_set c.args.shared.now.shape.banks c.args.stands.now.items v.stay.stands w.stay.stands c.in-Some-try_banks.bank c.args.version (size_of c.args.shared.now.shape) c.requires.stands c.in-Some-try_banks.ensures.answer.1

pub returns-in-Some-try_banks-clause-home : goal.returns-in-Some-try_banks-clause-home
returns-in-Some-try_banks-clause-home g c =
    let E = g.row.L-Entry.Denot in
    let v : View E = c.args.desk.now.view in
    let w : View E = c.try_banks.new.desk.view in
    let size : ℕ = size_of c.args.shared.now.shape in
    let words = c.try_banks.new.words.items in
    let none = subst (λ l. IsStanding l c.args.version None) c.as_slice.ensures.value c.in_default.ensures in
    let claims = subst (λ l. ClaimsGive l c.args.version v.past.asker v.past.asker_loads size v.stay w.stay words (Some c.in-Some-try_banks.bank)) c.as_slice-2.ensures.value c.in-Some-try_banks.ensures.answer in
    home_renewed c.args.shared.now.shape.banks c.args.version v.past.asker v.past.asker_loads c.args.stands.now.items v.stay w.stay size c.in-Some-try_banks.bank words c.requires.stands none claims

pub returns-in-None-clause-home : goal.returns-in-None-clause-home
returns-in-None-clause-home g c =
    let E = g.row.L-Entry.Denot in
    let v : View E = c.args.desk.now.view in
    let w : View E = c.try_banks.new.desk.view in
    let size : ℕ = size_of c.args.shared.now.shape in
    let words = c.try_banks.new.words.items in
    let claims = subst (λ l. ClaimsGive l c.args.version v.past.asker v.past.asker_loads size v.stay w.stay words None) c.as_slice-2.ensures.value c.in-None.ensures.answer in
    home_none c.args.shared.now.shape.banks c.args.version v.past.asker v.past.asker_loads c.args.stands.now.items v.stay w.stay size words c.of.result c.requires.stands c.in-None.ensures.words c.of.ensures.same claims
