use Rattle.px_afa.proofs.GroupedLists.{put_at}
use Rattle.px_afa.proofs.groups.Groups.put.Goals as goal

pub returns-in_ok-push-in-Some-clause-put : goal.returns-in_ok-push-in-Some-clause-put
returns-in_ok-push-in-Some-clause-put c =
    put_at c.self.inside.rows.items c.args.self.now c.args.key c.in-Some.key c.args.number c.index_mut-row.result.now c.push.new.self
    c.in-Some.is c.self.view_is (rw c.in-Some.is at c.requires.within) c.index_mut-row.ensures.value c.in_ok-push-in-Some.ensures.items
