-- The values of a command's arguments.
use Rattle.std.specs.Prelude.{ℕ, Bool, true, false, List, [], ◌∷◌, Option, Some, None}
use Rattle.std.specs.Prelude.{if◌then◌else◌, option_and_then}
use Rattle.std.specs.Option.{option_map}
use Rattle.desk_model.specs.declared.rows.LinkKind.TheVariants.{DependsOn}
use Rattle.desk_model.specs.declared.rows.WatchRole.{WatchRole}
use Rattle.desk_model.specs.declared.rows.WatchRole.TheVariants.{Requestor}
use Rattle.desk_forms.specs.Links.{kind_named}
use Rattle.desk_forms.specs.Roles.{role_named}
use Rattle.desk_forms.specs.declared.links.NamedKind.{NamedKind}
use Rattle.desk_forms.specs.declared.links.NamedKind.TheVariants.{Plain}
use Rattle.desk_forms.specs.Kinds.{Argument}
use Rattle.desk_forms.specs.ArgumentSource.{ArgumentSource}
use Rattle.desk_forms.specs.declared.kinds.Kind.{Kind}
use Rattle.desk_forms.specs.declared.kinds.Kind.TheVariants as kind
use Rattle.desk_forms.specs.declared.arguments.Arguments.{Arguments as InCode}

-- a value of each kind
pub record Arguments : Type 0 where
  pub id : ℕ
  pub other : ℕ
  pub queue : List ℕ
  pub text : List ℕ
  pub maybe : Option (List ℕ)
  pub role : WatchRole
  pub link : NamedKind
  pub delete : Bool

-- before anything is read
abbrev pub no_arguments : Arguments
no_arguments = record {
  id = 0;
  other = 0;
  queue = [];
  text = [];
  maybe = None;
  role = Requestor;
  link = Plain DependsOn;
  delete = false;
}

-- the values with what is given for an argument, if that is of its kind
abbrev pub put : Kind → List ℕ → ArgumentSource → Arguments → Option Arguments
put kind.Id k sheet v = option_map (λ n. record v { id = n }) (sheet.id k)
put kind.Other k sheet v = option_map (λ n. record v { other = n }) (sheet.number k)
put kind.Queue k sheet v = option_map (λ t. record v { queue = t }) (sheet.queue k)
put kind.Text k sheet v = option_map (λ t. record v { text = t }) (sheet.text k)
put kind.Role k sheet v =
    option_map (λ r. record v { role = r }) (option_and_then role_named (sheet.text k))
put kind.Link k sheet v =
    option_map (λ l. record v { link = l }) (option_and_then kind_named (sheet.text k))
put kind.Maybe k sheet v = option_map (λ t. record v { maybe = t }) (sheet.maybe k)
put kind.Named k sheet v = option_map (λ t. record v { maybe = t }) (sheet.maybe k)
put kind.Many k sheet v = Some v
put (kind.Flag letter) k sheet v = Some (record v { delete = sheet.is_set k })

abbrev pub put_all : List Argument → ArgumentSource → Arguments → Option Arguments
put_all [] sheet v = Some v
put_all (a ∷ rest) sheet v = option_and_then (put_all rest sheet) (put a.kind a.key sheet v)

abbrev pub is_many : Kind → Bool
is_many kind.Many = true
is_many _ = false

-- the texts of an argument that is many, where there is one
abbrev pub many_in : List Argument → ArgumentSource → Option (List (List ℕ))
many_in [] sheet = Some []
many_in (a ∷ rest) sheet = if is_many a.kind then sheet.texts a.key else many_in rest sheet

-- the values as the code holds them
abbrev pub values_of : InCode → Arguments
values_of v = record {
  id = v.id;
  other = v.other;
  queue = v.queue.now;
  text = v.text.now;
  maybe = option_map (λ t. t.now) v.maybe;
  role = v.role;
  link = v.link;
  delete = v.delete;
}
