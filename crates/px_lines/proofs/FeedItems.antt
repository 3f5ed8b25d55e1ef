-- Which item of a feed a value of the program is.
use Rattle.std.proofs.Common.{◌≡◌, ℕ, List, refl, ap, sym, ◌∙◌}
use Rattle.px_text.specs.Nodes.{Root}
use Rattle.px_reader.specs.declared.doc.Doc.{Doc}
use Rattle.px_feed.specs.declared.item.Item.TheVariants as items
use Rattle.px_feed.specs.Effects.{IsItem}
use Rattle.px_feed.specs.Items.{Item, Adding, Removing, Replacing, Showing}
use Rattle.px_lines.specs.Replying.{IsOf}

pub is_adding : (text : List ℕ) (brought : Item) → IsItem (items.Add text) brought → brought ≡ Adding text
is_adding text (Adding t) is = ap Adding (sym is)
is_adding text (Removing t) is = absurd is
is_adding text (Replacing i t) is = absurd is
is_adding text (Showing root) is = absurd is

pub is_removing : (text : List ℕ) (brought : Item) → IsItem (items.Remove text) brought → brought ≡ Removing text
is_removing text (Adding t) is = absurd is
is_removing text (Removing t) is = ap Removing (sym is)
is_removing text (Replacing i t) is = absurd is
is_removing text (Showing root) is = absurd is

pub is_replacing : (id text : List ℕ) (brought : Item) → IsItem (items.Replace id text) brought → brought ≡ Replacing id text
is_replacing id text (Adding t) is = absurd is
is_replacing id text (Removing t) is = absurd is
is_replacing id text (Replacing i t) is = ap (λ (one : List ℕ). Replacing one t) (sym is.0) ∙ ap (Replacing id) (sym is.1)
is_replacing id text (Showing root) is = absurd is

pub is_showing : (doc : Doc) (brought : Item) → IsItem (items.Document doc) brought → (root : Root) × (brought ≡ Showing root) × IsOf doc root
is_showing doc (Adding t) is = absurd is
is_showing doc (Removing t) is = absurd is
is_showing doc (Replacing i t) is = absurd is
is_showing doc (Showing root) is = (root, refl, record { verdict = is })
