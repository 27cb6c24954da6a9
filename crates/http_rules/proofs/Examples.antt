-- Examples of the definitions: which hosts are named, what a target becomes, what is expected, and
-- where a date stands.
use Rattle.std.specs.Prelude.{◌≡◌, refl, true, false, List, [], ◌∷◌, codes, Some, None}
use Rattle.httpdate.proofs.OnLiterals.{httpdate_on_literals}
use Rattle.http_rules.specs.Date.{dated, is_date, undated}
use Rattle.http_rules.specs.Host.{name_host}
use Rattle.http_rules.specs.Target.{behind_scheme, origin_form}

-- Host.antt

no_host_in_1_1 : name_host 1 [] ≡ false
no_host_in_1_1 = refl

no_host_in_1_0 : name_host 0 [] ≡ true
no_host_in_1_0 = refl

one_host : name_host 1 (codes "desk.example.org:8443" ∷ []) ≡ true
one_host = refl

-- as it is where a target has no host
empty_host : name_host 1 ([] ∷ []) ≡ true
empty_host = refl

host_of_an_address : name_host 1 (codes "[::1]:80" ∷ []) ≡ true
host_of_an_address = refl

two_hosts : name_host 1 (codes "a" ∷ codes "a" ∷ []) ≡ false
two_hosts = refl

two_hosts_in_1_0 : name_host 0 (codes "a" ∷ codes "b" ∷ []) ≡ false
two_hosts_in_1_0 = refl

host_with_a_space : name_host 1 (codes "a b" ∷ []) ≡ false
host_with_a_space = refl

host_with_a_slash : name_host 1 (codes "a/b" ∷ []) ≡ false
host_with_a_slash = refl

-- Target.antt

path_stays : origin_form (codes "/queues?x=http://a/b") ≡ codes "/queues?x=http://a/b"
path_stays = refl

whole_address :
    origin_form (codes "http://desk.example.org:8080/requests/1?a=b") ≡ codes "/requests/1?a=b"
whole_address = refl

address_in_large_letters : origin_form (codes "HTTPS://desk/desk/") ≡ codes "/desk/"
address_in_large_letters = refl

host_alone : origin_form (codes "http://desk") ≡ codes "/"
host_alone = refl

query_without_a_path : origin_form (codes "http://desk?a=/b") ≡ codes "/?a=/b"
query_without_a_path = refl

address_of_another_scheme : origin_form (codes "ftp://desk/queues") ≡ codes "ftp://desk/queues"
address_of_another_scheme = refl

scheme_alone : behind_scheme (codes "http:/") ≡ None
scheme_alone = refl

star : origin_form (codes "*") ≡ codes "*"
star = refl

-- Date.antt

date_behind_the_first_line :
    dated (codes "Sun, 06 Nov 1994 08:49:37 GMT") (codes "HTTP/1.1 200 OK\r\nA: b\r\n\r\nok\n")
    ≡ codes "HTTP/1.1 200 OK\r\nDate: Sun, 06 Nov 1994 08:49:37 GMT\r\nA: b\r\n\r\nok\n"
date_behind_the_first_line = refl

no_line : dated (codes "Sun, 06 Nov 1994 08:49:37 GMT") (codes "HTTP") ≡ codes "HTTP"
no_line = refl

no_date_stands_there : undated (codes "HTTP/1.1 200 OK\r\nA: b\r\n\r\nok\n")
    ≡ codes "HTTP/1.1 200 OK\r\nA: b\r\n\r\nok\n"
no_date_stands_there = refl

text_of_a_date : is_date (codes "Sun, 06 Nov 1994 08:49:37 GMT") ≡ true
unfolding httpdate_on_literals
text_of_a_date = refl

-- it was a Sunday
wrong_day_of_the_week : is_date (codes "Mon, 06 Nov 1994 08:49:37 GMT") ≡ false
unfolding httpdate_on_literals
wrong_day_of_the_week = refl

no_date : is_date (codes "some time of 29 bytes, is it?") ≡ false
unfolding httpdate_on_literals
no_date = refl
