-- The table of commands: what each is given, the words and the paths that ask for it, and the
-- command that its values make.
use Rattle.std.specs.Prelude.{ℕ, true, List, [], ◌∷◌, codes}
use Rattle.desk_model.specs.declared.command.Command.{Command}
use Rattle.desk_model.specs.declared.command.Command.TheVariants as command
use Rattle.desk_forms.specs.Links.{linking}
use Rattle.desk_forms.specs.Kinds.{Argument, is}
use Rattle.desk_forms.specs.Paths as path
use Rattle.desk_forms.specs.Paths.{Part, get, lit, post}
use Rattle.desk_forms.specs.Arguments.{Arguments}
use Rattle.desk_forms.specs.Words as word
use Rattle.desk_forms.specs.Words.{asks}
use Rattle.desk_forms.specs.declared.kinds.Kind.TheVariants.{Id, Other, Queue, Text, Role, Link}
use Rattle.desk_forms.specs.declared.kinds.Kind.TheVariants.{Maybe, Named, Many, Flag}
use Rattle.desk_forms.specs.declared.table.CommandForm.{CommandForm}
use Rattle.desk_forms.specs.declared.table.CommandForm.TheVariants as form

abbrev pub id : Argument
id = is (codes "id") Id

abbrev pub link : List Argument
link = id ∷ is (codes "kind") Link ∷ is (codes "other") Other ∷ is (codes "delete") (Flag 100) ∷ []

abbrev pub watcher : List Argument
watcher = id ∷ is (codes "role") Role ∷ is (codes "person") Text ∷ []

-- what a command of the form is given, in order
abbrev pub arguments : CommandForm → List Argument
arguments form.OpenQueue =
    is (codes "queue") Queue ∷ is (codes "lifecycle") Text ∷ is (codes "level") Maybe ∷ []
arguments form.Create =
    is (codes "queue") Queue ∷ is (codes "subject") Text
    ∷ is (codes "requestors") Many ∷ is (codes "status") Named ∷ []
arguments form.SetStatus = id ∷ is (codes "status") Text ∷ []
arguments form.Resolve = id ∷ []
arguments form.SetLevel = id ∷ is (codes "level") Maybe ∷ []
arguments form.Take = id ∷ []
arguments form.Steal = id ∷ []
arguments form.Untake = id ∷ []
arguments form.Give = id ∷ is (codes "person") Text ∷ []
arguments form.Watch = watcher
arguments form.Unwatch = watcher
arguments form.Reply = id ∷ is (codes "text") Text ∷ []
arguments form.Comment = id ∷ is (codes "text") Text ∷ []
arguments form.Link = link
arguments form.Unlink = link
arguments form.Queues = []
arguments form.Show = id ∷ []
arguments form.List = is (codes "queue") Queue ∷ []
arguments form.History = id ∷ []
arguments form.Overdue = []
arguments form.Workload = []

-- the words that ask for a command
unfoldable pub words : List word.Row
words =
    asks (codes "queue") form.OpenQueue
    ∷ asks (codes "create") form.Create
    ∷ asks (codes "status") form.SetStatus
    ∷ asks (codes "resolve") form.Resolve
    ∷ asks (codes "level") form.SetLevel
    ∷ asks (codes "take") form.Take
    ∷ asks (codes "steal") form.Steal
    ∷ asks (codes "untake") form.Untake
    ∷ asks (codes "give") form.Give
    ∷ asks (codes "watch") form.Watch
    ∷ asks (codes "unwatch") form.Unwatch
    ∷ asks (codes "correspond") form.Reply
    ∷ asks (codes "comment") form.Comment
    ∷ asks (codes "link") form.Link
    ∷ asks (codes "queues") form.Queues
    ∷ asks (codes "show") form.Show
    ∷ asks (codes "ls") form.List
    ∷ asks (codes "history") form.History
    ∷ asks (codes "overdue") form.Overdue
    ∷ asks (codes "workload") form.Workload
    ∷ []

-- /queues
abbrev pub queues : List Part
queues = lit (codes "queues") ∷ []

-- /queues/{queue}/requests
abbrev pub requests : List Part
requests = lit (codes "queues") ∷ path.queue ∷ lit (codes "requests") ∷ []

-- /requests/{id}
abbrev pub request : List Part
request = lit (codes "requests") ∷ path.id ∷ []

-- /requests/{id}/{act}
abbrev pub act : List ℕ → List Part
act name = lit (codes "requests") ∷ path.id ∷ lit name ∷ []

-- the methods and paths that do
unfoldable pub paths : List path.Row
paths =
    get queues form.Queues
    ∷ post queues form.OpenQueue
    ∷ get requests form.List
    ∷ post requests form.Create
    ∷ get request form.Show
    ∷ get (act (codes "history")) form.History
    ∷ post (act (codes "status")) form.SetStatus
    ∷ post (act (codes "take")) form.Take
    ∷ post (act (codes "steal")) form.Steal
    ∷ post (act (codes "untake")) form.Untake
    ∷ post (act (codes "give")) form.Give
    ∷ post (act (codes "reply")) form.Reply
    ∷ post (act (codes "comment")) form.Comment
    ∷ post (act (codes "watch")) form.Watch
    ∷ post (act (codes "unwatch")) form.Unwatch
    ∷ post (act (codes "link")) form.Link
    ∷ post (act (codes "unlink")) form.Unlink
    ∷ post (act (codes "level")) form.SetLevel
    ∷ get (lit (codes "overdue") ∷ []) form.Overdue
    ∷ get (lit (codes "workload") ∷ []) form.Workload
    ∷ []

-- the command that values make
abbrev pub build_command : CommandForm → Arguments → List (List ℕ) → Command
build_command form.OpenQueue v many = command.OpenQueue v.queue v.text v.maybe
build_command form.Create v many = command.Create v.queue v.text v.maybe many
build_command form.SetStatus v many = command.SetStatus v.id v.text
build_command form.Resolve v many = command.SetStatus v.id (codes "resolved")
build_command form.SetLevel v many = command.SetLevel v.id v.maybe
build_command form.Take v many = command.Take v.id
build_command form.Steal v many = command.Steal v.id
build_command form.Untake v many = command.Untake v.id
build_command form.Give v many = command.Give v.id v.text
build_command form.Watch v many = command.Watch v.id v.role v.text
build_command form.Unwatch v many = command.Unwatch v.id v.role v.text
build_command form.Reply v many = command.Reply v.id v.text
build_command form.Comment v many = command.Comment v.id v.text
build_command form.Link v many = linking v.delete v.id v.link v.other
build_command form.Unlink v many = linking true v.id v.link v.other
build_command form.Queues v many = command.Queues
build_command form.Show v many = command.Show v.id
build_command form.List v many = command.List v.queue
build_command form.History v many = command.History v.id
build_command form.Overdue v many = command.Overdue
build_command form.Workload v many = command.Workload
