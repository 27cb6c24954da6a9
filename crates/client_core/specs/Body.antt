-- The body of a message: its members are what a command's values say at the keys that are posted.
use Rattle.std.specs.Prelude.{◌≡◌, ℕ, List, [], ◌∷◌, Option, Some, None, map, IsUtf8}
use Rattle.std.specs.Option.{option_map}
use Rattle.serde_json.specs.Data.{Data, number, string, array, object, unsigned, Members}
use Rattle.serde_json.specs.Data.{no_members, put}
use Rattle.serde_json.specs.View.{items_of}
use Rattle.serde_json.specs.Read.{read}
use Rattle.desk_forms.specs.Kinds.{Argument}
use Rattle.desk_forms.specs.Paths.{PathParameter, InQueue, Row}
use Rattle.desk_forms.specs.Table.{arguments}
use Rattle.desk_forms.specs.Arguments.{Arguments}
use Rattle.desk_forms.specs.declared.kinds.Kind.{Kind}
use Rattle.desk_forms.specs.declared.kinds.Kind.TheVariants as kind
use Rattle.desk_forms.specs.declared.paths.Method.{Method}
use Rattle.desk_forms.specs.declared.paths.Method.TheVariants.{Get, Post}
use Rattle.client_core.specs.Spelled.{link_name, role_name}
use Rattle.client_core.specs.Target.{named}

-- a queue that the path names isn't posted
abbrev pub queue_of : PathParameter → List ℕ → Option Data
queue_of (InQueue name) posted = None
queue_of _ posted = Some (string posted)

-- what is posted of an argument of the kind, if anything is
abbrev pub value_of : PathParameter → Kind → Arguments → List (List ℕ) → Option Data
value_of b kind.Id v many = None
value_of b (kind.Flag letter) v many = None
value_of b kind.Other v many = Some (number (unsigned v.other))
value_of b kind.Queue v many = queue_of b v.queue
value_of b kind.Text v many = Some (string v.text)
value_of b kind.Role v many = Some (string (role_name v.role))
value_of b kind.Link v many = Some (string (link_name v.link))
value_of b kind.Maybe v many = option_map string v.maybe
value_of b kind.Named v many = option_map string v.maybe
value_of b kind.Many v many = Some (array (items_of (map string many)))

abbrev pub put_if : List ℕ → Option Data → Members → Members
put_if key None ms = ms
put_if key (Some value) ms = put key value ms

-- these members, and what is posted of the arguments
abbrev pub with_all : PathParameter → List Argument → Arguments → List (List ℕ) → Members → Members
with_all b [] v many ms = ms
with_all b (a ∷ rest) v many ms =
    with_all b rest v many (put_if a.key (value_of b a.kind v many) ms)

abbrev pub members : Row → Arguments → List (List ℕ) → Members
members row v many = with_all (named row.parts v) (arguments row.leads) v many no_members

-- what is written of these members: nothing for a GET, else a JSON text that reads as their object
abbrev pub WritesBy : Method → Members → List ℕ → Type 0
WritesBy Get ms content = content ≡ []
WritesBy Post ms content = IsUtf8 content × (read content ≡ Some (object ms))

abbrev pub Writes : Row → Arguments → List (List ℕ) → List ℕ → Type 0
Writes row v many content = WritesBy row.method (members row v many) content
