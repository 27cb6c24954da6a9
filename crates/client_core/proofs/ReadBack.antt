-- A message that was written is read, and asks for just the command.
use Rattle.std.proofs.Common.{◌≡◌, ◌∙◌, inr, ℕ, ◌<◌, ◌≤◌, ◌^◌, Bool, true, false, ◌&&◌, not, ◌||◌, nat_le}
use Rattle.std.proofs.Common.{List, [], ◌++◌, length, decimal, Option, Some, Result, Ok, Err}
use Rattle.std.proofs.Common.{refl, ap, sym, subst, arith, append_assoc, append-nil, lit≤}
use Rattle.std.specs.List.{list_all}
use Rattle.std.proofs.lemmas.Bool.{and_parts, leb-true}
use Rattle.httparse.specs.Grammar.{print_request}
use Rattle.text_core.specs.Form.{is_name}
use Rattle.settings_core.specs.Tokens.{is_token, is_token_byte}
use Rattle.desk_model.specs.declared.command.Command.{Command}
use Rattle.desk_forms.specs.Paths.{Row}
use Rattle.desk_forms.specs.Table.{build_command, paths}
use Rattle.desk_forms.specs.Arguments.{Arguments}
use Rattle.desk_forms.specs.declared.paths.Method.{Method}
use Rattle.desk_forms.specs.declared.paths.Method.TheVariants.{Get, Post}
use Rattle.desk_forms.specs.declared.table.CommandForm.{CommandForm}
use Rattle.desk_forms.specs.declared.table.CommandForm.TheVariants as form
use Rattle.message_core.specs.Head.{StartsWith}
use Rattle.message_core.specs.Message.{Reads}
use Rattle.message_core.specs.declared.fault.WireFault.{WireFault}
use Rattle.message_core.specs.declared.fault.WireFault.TheVariants.{BadHead}
use Rattle.message_core.specs.declared.limits.BodyLimit.TheVariants.{Plain}
use Rattle.message_core.specs.declared.message.Message.{Message}
use Rattle.message_core.specs.declared.request.Request.{Request}
use Rattle.message_core.proofs.MessageLemmas.{message_read, whole}
use Rattle.message_core.proofs.OneReading.{leaves_one, reads_one}
use Rattle.route_core.specs.Commands.{allow_of, asked_at, asked_at_place, asked_by, path_in}
use Rattle.route_core.specs.Commands.{place_named, said, with_fault}
use Rattle.route_core.specs.Places.{at}
use Rattle.route_core.specs.Rows.{OneRowHasAPath}
use Rattle.client_core.specs.Asked.{CanTell, has_queue}
use Rattle.client_core.specs.Message.{AsksAt, is_host, is_host_byte}
use Rattle.client_core.specs.ReadBack.{AsksForIt, NamesQueue, ReadsBack, message_for, method_name}
use Rattle.client_core.specs.Spelled.{many_of, row_at}
use Rattle.client_core.specs.Target.{named, target}
use Rattle.client_core.proofs.HeadWritten.{head_for, head_is, head_short, heading_back, written}
use Rattle.client_core.proofs.Numbers.{decimal_digits}
use Rattle.client_core.proofs.Laid.{leads}
use Rattle.client_core.proofs.PathBytes.{path_short, path_some, path_visible}
use Rattle.client_core.proofs.Posted.{says}
use Rattle.client_core.proofs.Rows.{of_row}
use Rattle.client_core.proofs.Visible.{AreVisible, digits_visible, token_visible}

-- ---- the reading

host_seen : (host : List ℕ) → is_host host ≡ true → (AreVisible host) × (length host ≤ 255)
host_seen host is =
    let k = and_parts (nat_le 1 (length host) && nat_le (length host) 255)
    (list_all is_host_byte host) is in
    let m = and_parts (nat_le 1 (length host)) (nat_le (length host) 255) k.0 in
    (k.1, leb-true (length host) 255 m.1)

token_seen : (token : List ℕ) → is_token token ≡ true → (AreVisible token) × (length token ≤ 64)
token_seen token is =
    let k = and_parts (nat_le 16 (length token) && nat_le (length token) 64)
    (list_all is_token_byte token) is in
    let m = and_parts (nat_le 16 (length token)) (nat_le (length token) 64) k.0 in
    (token_visible token k.1, leb-true (length token) 64 m.1)

read_back : (host token : List ℕ) (place : ℕ) (v : Arguments) (many : List (List ℕ)) (bytes : List ℕ)
    → is_host host ≡ true → is_token token ≡ true → place < length paths → v.id < 2 ^ 32
    → (asks : AsksAt host token (row_at place) v many bytes) → (more : List ℕ)
    → Reads (Some (bytes ++ more)) (Some more) (Ok (message_for token (row_at place) v asks.content))
read_back host token place v many bytes host_is token_is within small asks more =
    let row = row_at place in
    let content = asks.content in
    let n = length content in
    let path = target row.parts v in
    let head = head_for row.method path host token (decimal n) in
    let host_so = host_seen host host_is in
    let token_so = token_seen token token_is in
    let told = digits_visible (decimal n) (decimal_digits n (omega (arith, asks.fits))) in
    let form = head_is row.method path host token (decimal n) (path_some place v within)
    (path_visible place v within small) host_so.0 token_so.0 told in
    let starts : StartsWith (print_request head) head [] = record {
      reads = (form, sym (append-nil (print_request head)));
      short = head_short row.method path host token n (path_short place v within small) host_so.1
          token_so.1 asks.fits;
      few = lit≤ tt;
    } in
    let is : bytes ≡ print_request head ++ content =
    asks.is ∙ written row.method path host token n content in
    let had : bytes ++ more ≡ print_request head ++ (content ++ more) =
    ap (λ (l : List ℕ). l ++ more) is ∙ append_assoc (print_request head) content more in
    let message = message_for token row v content in
    let request : Request = record { message = message; head = print_request head } in
    message_read (Some (bytes ++ more)) (Some more) (Ok request)
    (inr (whole Plain (Some (bytes ++ more)) (Some (content ++ more)) (Some more)
    (print_request head) content _ message request had
    (head, starts, heading_back row.method path host token n host_so.0 token_so.0 told asks.fits)
    refl refl refl refl))

abbrev told : Message → Result Message WireFault
told message = Ok message

pub reads_back : ReadsBack
reads_back host token place v many bytes host_is token_is within small asks =
    let message = message_for token (row_at place) v asks.content in
    let ours = read_back host token place v many bytes host_is token_is within small asks in record {
      read = ours;
      only = λ more left other theirs. (
        reads_one (bytes ++ more) left (Some more) other (Ok message) theirs (ours more),
        sym (leaves_one (bytes ++ more) (Some more) left (Ok message) other
            (λ (e : told message ≡ Err BadHead). cc) (ours more) theirs),
      );
    }

-- ---- the command

-- a row whose path has a queue leads to a command that has one
abbrev on_queue : CommandForm → Bool
on_queue form.List = true
on_queue form.Create = true
on_queue other = false

queues_told : list_all (λ (r : Row). not (has_queue r.parts) || on_queue r.leads) paths ≡ true
unfolding paths
queues_told = refl

its_queue : (leads : CommandForm) (v : Arguments) (many : List (List ℕ)) (has : Bool)
    → (not has || on_queue leads) ≡ true → NamesQueue (build_command leads v many) → has ≡ true
    → is_name v.queue ≡ true
its_queue form.List v many has told name here = name
its_queue form.Create v many has told name here = name
its_queue other v many true told name here = absurd (let no : false ≡ true = told in cc)
its_queue other v many false told name here = absurd (let no : false ≡ true = here in cc)

place_is : (method : Method) (path : List ℕ) → place_named (method_name method) path ≡ asked_at method path
place_is Get path = refl
place_is Post path = refl

pub asks_for_it : OneRowHasAPath → AsksForIt
asks_for_it one settings host token person command bytes host_is token_is known names asks =
    let place = asks.place in
    let v = asks.values in
    let row = row_at place in
    let made_so = asks.makes in
    let many = many_of command in
    let content = asks.asks.content in
    let message = message_for token row v content in
    let path = path_in message.target in
    let named_so : NamesQueue (build_command row.leads v many) = subst NamesQueue (sym made_so.makes) names in
    let told = of_row (λ (r : Row). not (has_queue r.parts) || on_queue r.leads) queues_told place
    made_so.within in
    let can : CanTell row v = record {
      name = its_queue row.leads v many (has_queue row.parts) told named_so;
      other = made_so.other;
      plain = made_so.plain;
    } in
    let there = place_is row.method path ∙ leads one place v made_so.within made_so.id in
    let command_is = says place v many content made_so.within can asks.asks.writes
    ∙ ap (λ (c : Command). Some c) made_so.makes in (
      message,
      reads_back host token place v many bytes host_is token_is made_so.within made_so.id asks.asks,
      ap with_fault
          (ap (asked_at_place settings message (allow_of path)) there
          ∙ ap (λ (p : Option (List ℕ)). asked_by p (said (at row (named row.parts v)) content)) known
          ∙ ap (asked_by (Some person)) command_is),
    )
