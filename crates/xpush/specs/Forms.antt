-- The forms of the words of the command line.
use Rattle.std.specs.Prelude.{◌≡◌, ℕ, ◌+◌, ◌≤◌, ◌||◌, Bool, true, false, List, [], ◌∷◌, ◌++◌, codes, Option, Some, None, IsTrue, Result, Ok, Err, option_and_then, bytes_eq, if◌then◌else◌}
use Rattle.px_options.specs.OptionWords.{Rule, values_in}
use Rattle.px_options.specs.declared.OptionsError.{OptionsError}
use Rattle.px_options.specs.declared.OptionsError.TheVariants.{Usage, Memory}
use Rattle.px_hub.specs.declared.config.Config.{Config}
use Rattle.px_hub.specs.Names.{IsValid}
use Rattle.xpush.specs.declared.hub_words.HubCommand.{HubCommand}
use Rattle.xpush.specs.declared.hub_words.HubCommand.TheVariants.{Feed, Load}
use Rattle.xpush.specs.declared.words.Command.{Command}
use Rattle.xpush.specs.declared.words.Command.TheVariants as command

-- what is asked for
pub data Form : Type 0 where
  Matches : (filter : List ℕ) → Form
  Shows : (filter : List ℕ) → Form
  Explains : (filter : List ℕ) → Form
  Verifies : (filter : List ℕ) → Form
  Makes : (seed filters documents : ℕ) → Form
  -- on one thread, or over a hub of this size
  Serves : (hub : Option Config) → Form
  Loads : (seed filters documents : ℕ) → (hub : Config) → Form

-- `match FILTER`, `show FILTER`, `explain FILTER` and `verify FILTER`
abbrev pub filter_form : List ℕ → List (List ℕ) → Option Form
filter_form name (filter ∷ []) =
    if bytes_eq name (codes "match") then Some (Matches filter)
    else if bytes_eq name (codes "show") then Some (Shows filter)
    else if bytes_eq name (codes "explain") then Some (Explains filter)
    else if bytes_eq name (codes "verify") then Some (Verifies filter)
    else None
filter_form name _ = None

-- the options of `make`, which all have to be given
abbrev pub make_options : List Rule
make_options =
    record { name = codes "seed"; least = 0; most = 2147483647; otherwise = None }
    ∷ record { name = codes "filters"; least = 0; most = 50000; otherwise = None }
    ∷ record { name = codes "documents"; least = 0; most = 100000; otherwise = None }
    ∷ []

abbrev pub makes : List ℕ → Option Form
makes (seed ∷ filters ∷ documents ∷ []) = Some (Makes seed filters documents)
makes _ = None

-- `make --seed N --filters N --documents N`
abbrev pub make_form : List (List ℕ) → Option Form
make_form words = option_and_then makes (values_in make_options words)

-- `serial` alone
abbrev pub serial_form : List (List ℕ) → Option Form
serial_form [] = Some (Serves None)
serial_form _ = None

-- what the words ask for, if they are in a form that needs no runtime
abbrev pub plain_form_of : List (List ℕ) → Option Form
plain_form_of [] = None
plain_form_of (name ∷ words) =
    if bytes_eq name (codes "make") then make_form words
    else if bytes_eq name (codes "serial") then serial_form words
    else filter_form name words

-- the words name a command with options that needs no runtime
abbrev pub have_plain_options : List (List ℕ) → Bool
have_plain_options [] = false
have_plain_options (name ∷ words) = bytes_eq name (codes "make")

-- the options of a hub, which may be left out
abbrev pub hub_options : List Rule
hub_options =
    record { name = codes "banks"; least = 1; most = 16; otherwise = Some 2 }
    ∷ record { name = codes "node-bits"; least = 4; most = 20; otherwise = Some 16 }
    ∷ record { name = codes "step-bits"; least = 4; most = 20; otherwise = Some 18 }
    ∷ []

-- the options of `feed`: the number of workers has to be given
abbrev pub feed_options : List Rule
feed_options = record { name = codes "workers"; least = 1; most = 64; otherwise = None } ∷ hub_options

-- a pass for each worker, and one that makes the changes
abbrev pub hub_of : (workers banks node_bits step_bits : ℕ) → Config
hub_of workers banks node_bits step_bits = record { passes = workers + 1; banks = banks; node_bits = node_bits; step_bits = step_bits }

abbrev pub feeds : List ℕ → Option Form
feeds (workers ∷ banks ∷ node_bits ∷ step_bits ∷ []) = Some (Serves (Some (hub_of workers banks node_bits step_bits)))
feeds _ = None

-- `feed --workers N` and the options of a hub
abbrev pub feed_form : List (List ℕ) → Option Form
feed_form words = option_and_then feeds (values_in feed_options words)

-- the options of `load`: those of `make`, and those of `feed`
abbrev pub load_options : List Rule
load_options = make_options ++ feed_options

abbrev pub loads : List ℕ → Option Form
loads (seed ∷ filters ∷ documents ∷ workers ∷ banks ∷ node_bits ∷ step_bits ∷ []) =
    Some (Loads seed filters documents (hub_of workers banks node_bits step_bits))
loads _ = None

-- `load`, with the options of `make` and those of `feed`
abbrev pub load_form : List (List ℕ) → Option Form
load_form words = option_and_then loads (values_in load_options words)

-- what the words ask for, if they are in a form
abbrev pub form_of : List (List ℕ) → Option Form
form_of [] = None
form_of (name ∷ words) =
    if bytes_eq name (codes "feed") then feed_form words
    else if bytes_eq name (codes "load") then load_form words
    else plain_form_of (name ∷ words)

-- the words name a command with options, which take memory to be read
abbrev pub have_options : List (List ℕ) → Bool
have_options [] = false
have_options (name ∷ words) = bytes_eq name (codes "feed") || bytes_eq name (codes "load") || have_plain_options (name ∷ words)

-- the words name no command over a hub
pub record IsPlain (words : List (List ℕ)) : Type 0 where
  pub same_form : form_of words ≡ plain_form_of words
  pub same_options : have_options words ≡ have_plain_options words

-- the form that a command is
abbrev pub form : Command → Form
form (command.Match filter) = Matches filter.now
form (command.Show filter) = Shows filter.now
form (command.Explain filter) = Explains filter.now
form (command.Verify filter) = Verifies filter.now
form (command.Make seed filters documents) = Makes seed filters documents
form command.Serial = Serves None

abbrev pub hub_form : HubCommand → Form
hub_form (Feed config) = Serves (Some config)
hub_form (Load feed config) = Loads feed.seed feed.filters feed.documents config

-- a hub can be made for the command
abbrev pub IsLawful : HubCommand → Type 0
IsLawful (Feed config) = IsValid config × (2 ≤ config.passes)
IsLawful (Load feed config) = IsValid config × (2 ≤ config.passes)

-- The command is what was said, or nothing was. For want of memory, which only options take, it is not known.
abbrev pub IsSaid : {C : Type 0} → (form : C → Form) → Option Form → Bool → Result C OptionsError → Type 0
IsSaid form said has_options (Ok command) = Some (form command) ≡ said
IsSaid form said has_options (Err Usage) = said ≡ None
IsSaid form said has_options (Err Memory) = IsTrue has_options
