-- The pages that a run may be asked for.
use Rattle.std.specs.Prelude.{ℕ, List, codes}

abbrev pub version_text : List ℕ
version_text = codes "lwequal 0.3.0\n"

abbrev pub help_text : List ℕ
help_text = codes
    "lwequal compares two networks and proves that they are equal.\n\nusage: lwequal [-l LIB] [-n CONFLICTS] [-s] IN1 IN2 [MORE ..]\n       lwequal -h | -v\n\nIN1 and IN2 are networks in BLIF. Inputs, outputs and latches are matched by\nname. A latch's output counts as an input, and what a latch reads as an output.\n\n  MORE          further networks, such as the steps of an optimizer between IN1\n                and IN2; they may help, and nothing is assumed of them\n  -l LIB        a library in genlib: a file with .gate lines is a netlist of it\n  -n CONFLICTS  the most conflicts of a search for a pair of nets (1000)\n  -s            print on standard error how many nets were found and proved\n  -h, -v        print this help, or the version\n\nstatus  output                 meaning\n     0  equal                  the same values under every assignment\n     1  differ OUTPUT          and a line for each input of an assignment under\n                               which the networks differ\n     2  undecided OUTPUT ..    a larger CONFLICTS, or MORE, may decide\nother statuses: 3 fault of a network, 4 of LIB, 5 file too long, 7 output not\nwritten, 8 out of memory, 9 ports differ, 10 fault of a mapped netlist, 11 wrong\nwords, 12 file not read. One line on standard error names the cause.\n"
